-- A whole search on values, from its opening to its end or its first refusal. Assumes nothing.
use Rattle.std.specs.Prelude.{ℕ, zero, suc, ◌⊎◌, take, replicate}
use Rattle.std.proofs.Common.{inl, inr}
use Rattle.byte_strings.specs.Order.{Bytes}
use Rattle.bound.specs.Value.{BoundValue}
use Rattle.graph.specs.Table.{Table}
use Rattle.filter.specs.Filter.{Filter}
use Rattle.law.specs.Values.{Search, View, Answer, Handed, End, Refused}
use Rattle.law.specs.Next.{root_row, next_of}
use Rattle.law.specs.Open.{Opening, open_of}

-- keys with their totals and states, and then the end with the count, or a refusal
pub data Listing (S : Type 0) : Type 0 where
  key : Bytes → ℕ → S → Listing S → Listing S
  end : ℕ → Listing S
  refused : ℕ → Listing S
  cut_off : Listing S

module _ {S : Type 0} (g : Table) (f : Filter S) where
  abbrev pub by_answer : (View S → Listing S) → Answer S → View S → Listing S
  by_answer on (Handed n t s) y = key (take n y.key_area) t s (on y)
  by_answer on End y = end y.search.count
  by_answer on (Refused c) y = refused c

  -- at most so many calls of `next`
  unfoldable pub calls : ℕ → View S → Listing S
  calls zero x = cut_off
  calls (suc n) x = by_answer (calls n) (next_of g f x).answer (next_of g f x).left

  abbrev pub from_opening : Search ⊎ ℕ → Opening S → Listing S
  from_opening (inl s) o = calls 9 (record { search = s; rows = o.rows; key_area = o.key_area })
  from_opening (inr c) o = refused c

  -- with so many rows and key bytes
  unfoldable pub listing : BoundValue → BoundValue → ℕ → ℕ → Listing S
  listing lower upper rows bytes =
      let o = open_of g f lower upper (replicate rows (root_row g f)) (replicate bytes 0) in
      from_opening o.outcome o
