-- A stack as the first rows of those provided. Assumes nothing.
use Rattle.std.specs.Prelude.{ℕ, zero, suc, cond, List, length, None, Option, nat_lt, slice_set}
use Rattle.std.specs.List.{slice_get}

-- the row on top of so many rows
abbrev pub top_of : {R : Type 0} → ℕ → List R → Option R
top_of zero rows = None
top_of (suc d) rows = slice_get rows d

-- the rows with another one on top
abbrev pub with_top : {R : Type 0} → ℕ → List R → R → List R
with_top zero rows r = rows
with_top (suc d) rows r = slice_set rows d r

-- so many rows and one more, if there is a free one
abbrev pub depth_after : {R : Type 0} → ℕ → List R → ℕ
depth_after d rows = cond (nat_lt d (length rows)) (suc d) d
