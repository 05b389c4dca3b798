-- `open` on values: what it answers and what it leaves. Assumes nothing.
use Rattle.std.specs.Prelude.{ℕ, zero, suc, ◌-◌, Bool, true, false, cond, ◌&&◌, ltb, ◌⊎◌, List, [], ◌∷◌, length, set, Some, None, Option, nat_eq, nat_le, nat_lt, slice_index_or, slice_set}
use Rattle.std.proofs.Common.{inl, inr}
use Rattle.byte_strings.specs.Order.{Bytes}
use Rattle.bound.specs.Value.{BoundValue, unbounded, included, excluded, bytes_of}
use Rattle.graph.specs.Table.{Table}
use Rattle.filter.specs.Filter.{Filter}
use Rattle.law.specs.declared.Row.{Row}
use Rattle.law.specs.Values.{Search, most, at_position, onward, byte_at, key_total}
use Rattle.law.specs.Next.{root_row, deeper}

-- what `open` answers: a search, or the number of its refusal; and the areas that it leaves
pub record Opening (S : Type 0) : Type 0 where
  pub outcome : Search ⊎ ℕ
  pub rows : List (Row S)
  pub key_area : Bytes

-- the first position from p on, of k positions, that passes the test; else the one behind them
abbrev pub first_place : (ℕ → Bool) → ℕ → ℕ → ℕ
first_place test zero p = p
first_place test (suc k) p = cond (test p) p (first_place test k (suc p))

-- the position of the byte b at node n, or the number of transitions; and that of the first greater byte, or the number of transitions
abbrev pub place_of : Table → ℕ → ℕ → ℕ
place_of g n b = first_place (λ p. nat_eq (byte_at g n p) b) (g.len n) 0

abbrev pub place_above : Table → ℕ → ℕ → ℕ
place_above g n b = first_place (λ p. ltb b (byte_at g n p)) (g.len n) 0

abbrev pub new_search : BoundValue → ℕ → Option ℕ → Search
new_search upper d w = record { upper = upper; depth = d; waiting = w; standing = false; count = 0 }

-- the bound lets its own bytes in
abbrev pub is_inclusive : BoundValue → Bool
is_inclusive unbounded = true
is_inclusive (included b) = true
is_inclusive (excluded b) = false

module _ {S : Type 0} (g : Table) (f : Filter S) where
  -- all bytes were found, and d rows are written: Included lowers the last position by one, Excluded adds the reached row r
  abbrev pub settle : Bool → BoundValue → ℕ → Row S → List (Row S) → Bytes → Opening S
  settle true upper d r rows area =
      let l = slice_index_or rows (d - 1) (root_row g f) in
      record { outcome = inl (new_search upper d None); rows = slice_set rows (d - 1) (at_position l (l.position - 1)); key_area = area }
  settle false upper d r rows area = record { outcome = inl (new_search upper (suc d) None); rows = slice_set rows d r; key_area = area }

  -- the bytes w are still to be sought, from row r at depth d
  abbrev pub seek : Bool → BoundValue → Bytes → ℕ → Row S → List (Row S) → Bytes → Opening S
  seek keep upper [] d r rows area = settle keep upper d r rows area
  seek keep upper (b ∷ w) d r rows area =
      let p = place_of g r.node b in
      let here = at_position r p in
      cond (nat_lt p (g.len r.node))
      (cond (nat_lt most (deeper g f here).total)
      (record { outcome = inr 16; rows = rows; key_area = area })
      (seek keep upper w (suc d) (deeper g f here) (slice_set rows d (onward here)) (slice_set area d b)))
      (record { outcome = inl (new_search upper (suc d) None); rows = slice_set rows d (at_position r (place_above g r.node b)); key_area = area })

  -- the lower bound is absent or empty; keep says that it lets the empty key in
  abbrev pub from_root : Bool → BoundValue → List (Row S) → Bytes → Opening S
  from_root keep upper rows area =
      let left = set rows 0 (root_row g f) in
      let t = key_total g (root_row g f) in
      cond (keep && g.is_final g.root)
      (cond (nat_lt most t)
      (record { outcome = inr 16; rows = left; key_area = area })
      (record { outcome = inl (new_search upper 1 (Some t)); rows = left; key_area = area }))
      (record { outcome = inl (new_search upper 1 None); rows = left; key_area = area })

  abbrev pub start_at : Bool → Bytes → BoundValue → List (Row S) → Bytes → Opening S
  start_at keep [] upper rows area = from_root keep upper rows area
  start_at keep (b ∷ w) upper rows area = seek keep upper (b ∷ w) 0 (root_row g f) rows area

  -- `open`: 14, then 15, then the rows and bytes of the lower bound
  unfoldable pub open_of : BoundValue → BoundValue → List (Row S) → Bytes → Opening S
  open_of lower upper rows area =
      cond (nat_le (length rows) (length (bytes_of lower))) (record { outcome = inr 14; rows = rows; key_area = area })
      (cond (nat_lt (length area) (length (bytes_of lower))) (record { outcome = inr 15; rows = rows; key_area = area })
      (start_at (is_inclusive lower) (bytes_of lower) upper rows area))
