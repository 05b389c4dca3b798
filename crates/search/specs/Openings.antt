-- The opening as the code goes about it. Assumes nothing.
use Rattle.std.specs.Prelude.{◌≡◌, ◌<◌, ℕ, Bool, true, false, List, Ok, Err, Result, Some, None, Option, nat_lt}
use Rattle.std.proofs.Common.{inl, inr}
use Rattle.byte_strings.specs.Order.{Bytes}
use Rattle.bound.specs.Value.{BoundValue}
use Rattle.graph.specs.Table.{Table}
use Rattle.filter.specs.Filter.{Filter}
use Rattle.law.specs.declared.Row.{Row}
use Rattle.law.specs.Open.{Opening, new_search, place_of, seek}
use Rattle.stack.specs.declared.Stack.{Stack}
use Rattle.search.specs.declared.refusal.Refusal.{Refusal}
use Rattle.search.specs.declared.opening.Opened.{Opened}
use Rattle.search.specs.declared.opening.Found.{Found}
use Rattle.search.specs.Numbers.{number_of}

-- the transition with the byte b, at its position
pub record FoundAt (g : Table) (n b : ℕ) (x : Found) : Type 0 where
  pub there : nat_lt (place_of g n b) (g.len n) ≡ true
  pub position : x.position ≡ place_of g n b
  pub transition : g.transition n x.position ≡ Some x.transition
  pub byte : x.transition.byte ≡ b
  pub small : x.position < 256

-- it is found, or no transition has the byte
abbrev pub SeeksByte : Table → ℕ → ℕ → Option Found → Type 0
SeeksByte g n b None = nat_lt (place_of g n b) (g.len n) ≡ false
SeeksByte g n b (Some x) = FoundAt g n b x

module _ {S : Type 0} where
  -- an opening that leaves these areas, by what it comes to
  abbrev pub opening_of : BoundValue → Result Opened Refusal → List (Row S) → Bytes → Opening S
  opening_of upper (Ok o) rows area = record { outcome = inl (new_search upper o.stack.depth o.waiting); rows = rows; key_area = area }
  opening_of upper (Err e) rows area = record { outcome = inr (number_of e); rows = rows; key_area = area }

  -- the same where no total waits
  abbrev pub opened_at : BoundValue → Result Stack Refusal → List (Row S) → Bytes → Opening S
  opened_at upper (Ok s) rows area = record { outcome = inl (new_search upper s.depth None); rows = rows; key_area = area }
  opened_at upper (Err e) rows area = record { outcome = inr (number_of e); rows = rows; key_area = area }

  -- one byte was sought, at d rows then in use, and the bytes w are still to be sought
  abbrev pub advanced : Table → Filter S → Bool → BoundValue → Bytes → ℕ → List (Row S) → Bytes → Result (Option (Row S)) Refusal → Opening S
  advanced g f keep upper w d rows area (Ok (Some r)) = seek g f keep upper w d r rows area
  advanced g f keep upper w d rows area (Ok None) = record { outcome = inl (new_search upper d None); rows = rows; key_area = area }
  advanced g f keep upper w d rows area (Err e) = record { outcome = inr (number_of e); rows = rows; key_area = area }
