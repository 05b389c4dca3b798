-- The first refusal of a file, in their order. Assumes nothing.
use Rattle.std.specs.Prelude.{ℕ, zero, suc, ◌+◌, ◌-◌, ◌*◌, Bool, cond, not, ◌&&◌, ◌||◌, Some, None, Option, ◌==◌, nat_le, nat_lt}
use Rattle.catalogue.specs.declared.refusal.Refusal.{Refusal}
use Rattle.catalogue.specs.declared.refusal.Refusal.TheVariants.{FileTooShort, NodesOutOfRange, ContentsCutOff, BodyMisplaced, EntryMalformed, BodyPastEnd, ByteNotAbove, TargetNotBelow}
use Rattle.catalogue.specs.Format.{File, body_start, byte, target}

-- the one refusal, or else the other
abbrev pub or_else : Option Refusal → Option Refusal → Option Refusal
or_else None y = y
or_else (Some e) y = Some e

-- a refusal where its sentence holds
abbrev pub when : Bool → Refusal → Option Refusal
when b e = cond b (Some e) None

-- the first refusal among f 0, f 1, .. f (n - 1)
unfoldable pub first : (ℕ → Option Refusal) → ℕ → Option Refusal
first f zero = None
first f (suc n) = or_else (first f n) (f n)

module _ (file : File) where
  -- 1: the file has fewer than 4 bytes; 2: the number of nodes is 0 or above 65,535; 3: the file ends inside the contents
  abbrev pub head_refusal : Option Refusal
  head_refusal =
      or_else (when (nat_lt file.size 4) FileTooShort)
      (or_else (when (file.nodes == 0 || nat_lt 65535 file.nodes) NodesOutOfRange) (when (nat_lt file.size file.contents_end) ContentsCutOff))

  -- 4: the place is not where the body has to begin
  abbrev pub misplaced : ℕ → Bool
  misplaced n = not (file.place n == body_start file n)

  -- 5: too many transitions, a flag above 1, a byte that has to be 0 and is not, or a final output of a node that is not final
  abbrev pub malformed : ℕ → Bool
  malformed n = nat_lt 256 (file.len n) || (nat_lt 1 (file.flag n) || (not (file.padding n == 0) || (file.flag n == 0 && nat_lt 0 (file.final_output n))))

  -- 6: the body passes the file's end
  abbrev pub past_end : ℕ → Bool
  past_end n = nat_lt file.size (file.place n + 13 * file.len n)

  abbrev pub entry_refusal : ℕ → Option Refusal
  entry_refusal n = or_else (when (misplaced n) (BodyMisplaced n)) (or_else (when (malformed n) (EntryMalformed n)) (when (past_end n) (BodyPastEnd n)))

  -- 7: the byte is not above the one before
  abbrev pub not_above : ℕ → ℕ → Bool
  not_above n p = nat_lt 0 p && nat_le (byte file n p) (byte file n (p - 1))

  -- 8: the target is not below the node's number
  abbrev pub not_below : ℕ → ℕ → Bool
  not_below n p = nat_le n (target file n p)

  abbrev pub transition_refusal : ℕ → ℕ → Option Refusal
  transition_refusal n p = or_else (when (not_above n p) (ByteNotAbove n)) (when (not_below n p) (TargetNotBelow n))

  abbrev pub node_refusal : ℕ → Option Refusal
  node_refusal n = or_else (entry_refusal n) (first (transition_refusal n) (file.len n))

  -- the first refusal of the file, if it has one
  abbrev pub refusal_of : Option Refusal
  refusal_of = or_else head_refusal (first node_refusal file.nodes)
