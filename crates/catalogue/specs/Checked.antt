-- What is known of a file once a part of it was checked. Assumes nothing.
use Rattle.std.specs.Prelude.{◌≡◌, ℕ, zero, suc, ◌+◌, ◌*◌, ◌≤◌, Bool, false, List, length, Some, None, Option, nat_le}
use Rattle.graph.specs.declared.Transition.{Transition}
use Rattle.catalogue.specs.declared.refusal.Refusal.{Refusal}
use Rattle.catalogue.specs.declared.refusal.Refusal.TheVariants.{ByteNotAbove, TargetNotBelow}
use Rattle.catalogue.specs.Format.{File, file_of, body_start, byte}
use Rattle.catalogue.specs.Bodies.{BodyOf}
use Rattle.catalogue.specs.Refusals.{or_else, when, head_refusal, entry_refusal, node_refusal}

-- the head, with the number of nodes
abbrev pub HeadChecked : File → ℕ → Type 0
HeadChecked file nodes = (head_refusal file ≡ None) × (nodes ≡ file.nodes) × (file.contents_end ≤ file.size) × (nodes ≤ 65535)

-- the entry of node n, with its body
abbrev pub EntryChecked : List ℕ → ℕ → List (List ℕ) → Type 0
EntryChecked bs n body =
    (entry_refusal (file_of bs) n ≡ None)
    × ((file_of bs).place n ≡ body_start (file_of bs) n)
    × ((file_of bs).place n + 13 * (file_of bs).len n ≤ length bs)
    × BodyOf bs n body

-- the entry and the body of node n, with the place where the body ends
abbrev pub NodeChecked : File → ℕ → ℕ → Type 0
NodeChecked file n end = (node_refusal file n ≡ None) × (end ≡ body_start file n + 13 * file.len n) × (end ≤ file.size)

-- the byte before position p of node n, if there is one
abbrev pub byte_before : File → ℕ → ℕ → Option ℕ
byte_before file n zero = None
byte_before file n (suc q) = Some (byte file n q)

-- a byte is not above the one before, if there is one
abbrev pub not_above_before : Option ℕ → ℕ → Bool
not_above_before None b = false
not_above_before (Some a) b = nat_le b a

-- the refusal of a transition of node n behind a byte, or as the first
abbrev pub refusal_behind : ℕ → Option ℕ → Transition → Option Refusal
refusal_behind n before t = or_else (when (not_above_before before t.byte) (ByteNotAbove n)) (when (nat_le n t.target) (TargetNotBelow n))
