-- The paths of a search, the places that it comes to among them, and why a call stops at one of them. Assumes nothing.
use Rattle.std.specs.Prelude.{◌≡◌, ℕ, ◌<◌, ◌≤◌, true, ◌⊎◌, List, [], ◌∷◌, ◌++◌, length}
use Rattle.byte_strings.specs.Order.{Bytes, ◌≺◌}
use Rattle.bound.specs.Value.{BoundValue}
use Rattle.bound.specs.Within.{From, To}
use Rattle.graph.specs.Table.{Table}
use Rattle.graph.specs.Keys.{Leads}
use Rattle.filter.specs.Filter.{Filter, run}
use Rattle.law.specs.Entries.{Entry, ◌∈◌}
use Rattle.law.specs.Values.{most, most_keys}

module _ {S : Type 0} (g : Table) (f : Filter S) (lower : BoundValue) where
  -- each step of v to bytes that the lower bound lets in goes out from a state at which the filter can match
  abbrev pub LetThrough : Bytes → Type 0
  LetThrough v = (w : Bytes) (b : ℕ) (x : Bytes) → v ≡ w ++ (b ∷ x) → From lower (w ++ (b ∷ [])) →
      f.can_match (run f f.start w) ≡ true

  -- v is a path of the search, with the sum u: first total and outputs; the empty path is one only where it is a key
  pub record PathOf (v : Bytes) (u : ℕ) : Type 0 where
    pub node : ℕ
    pub leads : Leads g g.root g.first_total v node u
    pub from : From lower v
    pub let_through : LetThrough v
    pub empty_is_key : v ≡ [] → g.is_final node ≡ true

-- how far a search has come: it has passed no path, or k and all before it, or all before v, or all
pub data Place : Type 0 where
  at_start : Place
  after before : Bytes → Place
  at_end : Place

-- from this place the path v is still to come
abbrev pub Follows : Place → Bytes → Type 0
Follows at_start v = Unit {0}
Follows (after k) v = k ≺ v
Follows (before w) v = (w ≡ v) ⊎ (w ≺ v)
Follows at_end v = ⊥

-- a path of n bytes takes n + 1 rows and n key bytes
pub record HasRoom (rows bytes : ℕ) (v : Bytes) : Type 0 where
  pub row_free : length v < rows
  pub byte_free : length v ≤ bytes

-- and its sum u is at most 2^64 − 1
pub record PathFits (rows bytes : ℕ) (v : Bytes) (u : ℕ) : Type 0 where
  pub room : HasRoom rows bytes v
  pub sum_fits : u ≤ most

-- v is the key of the next entry of rest, whose total is t
abbrev pub NextIs : {S : Type 0} → List (Entry S) → Bytes → ℕ → Type 0
NextIs {S} rest v t = (s : S) × (later : List (Entry S)) × (rest ≡ record { key = v; total = t; state = s } ∷ later)

-- what stops a call at the path v with the sum u, with areas of these numbers of rows and bytes, this count, and rest owed
pub data Stops {S : Type 0} (rows bytes count : ℕ) (rest : List (Entry S)) (v : Bytes) (u : ℕ) : ℕ → Type 0 where
  stack_full : rows ≤ length v → Stops rows bytes count rest v u 14
  key_area_full : length v < rows → bytes < length v → Stops rows bytes count rest v u 15
  path_too_large : HasRoom rows bytes v → most < u → Stops rows bytes count rest v u 16
  total_too_large : PathFits rows bytes v u → (t : ℕ) → NextIs rest v t → most < t → Stops rows bytes count rest v u 16
  count_full : PathFits rows bytes v u → (t : ℕ) → NextIs rest v t → t ≤ most → count ≡ most_keys → Stops rows bytes count rest v u 17

-- a call with such areas, for which the paths of coming are to come
module _ {S : Type 0} (g : Table) (f : Filter S) (lower upper : BoundValue) (coming : Bytes → Type 0) (rows bytes : ℕ) where
  -- it comes to v: all paths to come before v fit and are within the upper bound, and none of them is owed
  pub record ComesTo (rest : List (Entry S)) (v : Bytes) (u : ℕ) : Type 0 where
    pub path : PathOf g f lower v u
    pub to_come : coming v
    pub passed : (w : Bytes) (s : ℕ) → PathOf g f lower w s → coming w → w ≺ v → PathFits rows bytes w s × To upper w
    pub none_owed_before : (e : Entry S) → e ∈ rest → Follows (before v) e.key

  -- every path to come fits, up to the first that the upper bound keeps out, and this one too
  abbrev pub FitToBound : Type 0
  FitToBound = (v : Bytes) (u : ℕ) → PathOf g f lower v u → coming v →
      ((w : Bytes) (s : ℕ) → PathOf g f lower w s → coming w → w ≺ v → To upper w) → PathFits rows bytes v u

  module _ (count : ℕ) (rest : List (Entry S)) where
    -- it is refused by c at v
    abbrev pub Reason : Bytes → ℕ → Type 0
    Reason v c = (u : ℕ) × ComesTo rest v u × Stops rows bytes count rest v u c

    -- it hands out the next entry: it comes to that key, and nothing stops it there
    pub record HandsOut (v : Bytes) (t : ℕ) (s : S) : Type 0 where
      pub later : List (Entry S)
      pub head : rest ≡ record { key = v; total = t; state = s } ∷ later
      pub sum : ℕ
      pub comes : ComesTo rest v sum
      pub unstopped : (c : ℕ) → Stops rows bytes count rest v sum c → ⊥
