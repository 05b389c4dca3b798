-- Every history of one search: opened, and then called by `next` and `key` in any number and order, refused calls included. Assumes nothing.
use Rattle.std.specs.Prelude.{◌≡◌, ◌-◌, true, false, List, [], ◌∷◌, ◌++◌, take}
use Rattle.std.proofs.Common.{inl}
use Rattle.byte_strings.specs.Order.{Bytes}
use Rattle.bound.specs.Value.{BoundValue}
use Rattle.graph.specs.Table.{Table}
use Rattle.filter.specs.Filter.{Filter}
use Rattle.law.specs.Entries.{Entry}
use Rattle.law.specs.declared.Row.{Row}
use Rattle.law.specs.Values.{Search, View, Answer, Handed, End, Refused, Result, with_search, too_short}
use Rattle.law.specs.Next.{next_of}
use Rattle.law.specs.Open.{open_of}

-- the work areas of x serve the search of y as well: the rows below its depth and its depth − 1 key bytes stand in them unchanged
pub record Serves {S : Type 0} (y x : View S) : Type 0 where
  pub same : x.search ≡ y.search
  pub rows_kept : take y.search.depth x.rows ≡ take y.search.depth y.rows
  pub bytes_kept : take (y.search.depth - 1) x.key_area ≡ take (y.search.depth - 1) y.key_area

-- the entry that an answer hands out; its key is the first bytes of the key area
abbrev pub entries : {S : Type 0} → Answer S → Bytes → List (Entry S)
entries (Handed n t s) area = record { key = take n area; total = t; state = s } ∷ []
entries End area = []
entries (Refused n) area = []

abbrev pub given_out : {S : Type 0} → Result S → List (Entry S)
given_out r = entries r.answer r.left.key_area

-- the search, with the areas that the last call left which 13 did not refuse, and all entries handed out so far
pub data History {S : Type 0} (g : Table) (f : Filter S) (lower upper : BoundValue) : View S → List (Entry S) → Type 0 where
  opened : (rows : List (Row S)) (area : Bytes) (s : Search) → (open_of g f lower upper rows area).outcome ≡ inl s →
      History g f lower upper (record { search = s; rows = (open_of g f lower upper rows area).rows; key_area = (open_of g f lower upper rows area).key_area }) []
  next_refused : {y : View S} {es : List (Entry S)} → History g f lower upper y es →
      (x : View S) → x.search ≡ y.search → too_short x ≡ true → History g f lower upper (with_search (next_of g f x).left.search y) es
  next : {y : View S} {es : List (Entry S)} → History g f lower upper y es →
      (x : View S) → too_short x ≡ false → Serves y x → History g f lower upper (next_of g f x).left (es ++ given_out (next_of g f x))
  key_refused : {y : View S} {es : List (Entry S)} → History g f lower upper y es →
      (x : View S) → x.search ≡ y.search → too_short x ≡ true → History g f lower upper y es
  key : {y : View S} {es : List (Entry S)} → History g f lower upper y es →
      (x : View S) → too_short x ≡ false → Serves y x → History g f lower upper x es
