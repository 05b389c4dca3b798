-- The theorems about whole searches, for all tables and all histories. Each is named by the contract of a function. Assumes nothing.
use Rattle.std.specs.Prelude.{◌≡◌, ℕ, suc, ◌+◌, ◌≤◌, true, false, List, [], ◌∷◌, ◌++◌, length, take, None}
use Rattle.byte_strings.specs.Order.{Bytes}
use Rattle.bound.specs.Value.{BoundValue, excluded}
use Rattle.graph.specs.Table.{Table, Lawful}
use Rattle.graph.specs.Keys.{Leads, Key}
use Rattle.filter.specs.Filter.{Filter, Lawful as LawfulFilter}
use Rattle.filter.specs.Tables.{union_table, intersection_table, complement_table, always_match_table}
use Rattle.law.specs.Entries.{Entry, Lists}
use Rattle.law.specs.Values.{most, most_keys, Search, View, Answer, Handed, End, Refused, Standing, NoPart, too_short}
use Rattle.law.specs.Next.{all_looks, Walks, walk, next_of, key_of}
use Rattle.law.specs.History.{Serves, History}
use Rattle.law.specs.Paths.{Place, Follows, after, before, at_end, HandsOut, Reason, FitToBound}
use Rattle.law.specs.Standing.{StandsAt}

-- how many rows are in use before the path v: the root's, and one for each byte of v but its last
abbrev pub rows_before : Bytes → ℕ
rows_before [] = 1
rows_before (b ∷ v) = suc (length v)

-- what an answer of a call says, with the paths of coming to come and rest owed, and where the search z that it leaves stands
module _ {S : Type 0} (g : Table) (f : Filter S) (lower upper : BoundValue)
    (coming : Bytes → Type 0) (rows bytes count : ℕ) (rest : List (Entry S)) where
  abbrev pub Explains : Answer S → View S → Type 0
  Explains (Handed n t s) z =
      let key = take n z.key_area in
      (n ≤ length z.key_area) × HandsOut g f lower upper coming rows bytes count rest key t s × StandsAt g f lower z (after key)
  Explains End z = (rest ≡ []) × FitToBound g f lower upper coming rows bytes × StandsAt g f lower z at_end
  Explains (Refused c) z =
      (v : Bytes) × Reason g f lower upper coming rows bytes count rest v c ×
      (z.search.depth ≡ rows_before v) × StandsAt g f lower z (before v)

-- the answer a of a call with x, after a history that left y with rest still owed, fits: from every place at which y stands it explains what it leaves, z
abbrev pub Fits : {S : Type 0} → Table → Filter S → BoundValue → BoundValue → View S → List (Entry S) → View S → Answer S → View S → Type 0
Fits g f lower upper y rest x a z = (p : Place) → StandsAt g f lower y p →
    Explains g f lower upper (Follows p) (length x.rows) (length x.key_area) x.search.count rest a z

-- a search that has handed out es
pub record Owes {S : Type 0} (g : Table) (f : Filter S) (lower upper : BoundValue) (y : View S) (es : List (Entry S)) : Type 0 where
  pub rest : List (Entry S)
  pub whole : Lists g f lower upper (es ++ rest)
  pub counted : y.search.count ≡ length es
  pub place : Place
  pub stands : StandsAt g f lower y place
  pub following : (x : View S) → too_short x ≡ false → Serves y x → Fits g f lower upper y rest x (next_of g f x).answer (next_of g f x).left
  pub narrow : (x : View S) → too_short x ≡ true → ((next_of g f x).answer ≡ Refused 13) × (key_of x ≡ NoPart 13)
  pub stood : y.search.standing ≡ true → (front : List (Entry S)) × (e : Entry S) × (es ≡ front ++ (e ∷ [])) ×
      ((x : View S) → too_short x ≡ false → Serves y x → key_of x ≡ Standing e.key)

-- every history of a search: what was handed out is the front of the rising list of all accepted keys within the bounds, it stands at a place, and the next answer fits
abbrev pub HandedOutIsFront : Type 0 → Type 0
HandedOutIsFront S = (g : Table) (f : Filter S) (lower upper : BoundValue) → Lawful g → LawfulFilter f →
    (y : View S) (es : List (Entry S)) → History g f lower upper y es → Owes g f lower upper y es

-- areas that serve a search leave it where it stood
abbrev pub PlaceIsKept : Type 0 → Type 0
PlaceIsKept S = (g : Table) (f : Filter S) (lower : BoundValue) (y x : View S) → Serves y x →
    (p : Place) → StandsAt g f lower y p → StandsAt g f lower x p

-- that list is one only, and there is one
abbrev pub Determined : Type 0 → Type 0
Determined S = (g : Table) (f : Filter S) (lower upper : BoundValue) → Lawful g →
    (es fs : List (Entry S)) → Lists g f lower upper es → Lists g f lower upper fs → es ≡ fs

abbrev pub Listable : Type 0 → Type 0
Listable S = (g : Table) (f : Filter S) (lower upper : BoundValue) → Lawful g → (es : List (Entry S)) × Lists g f lower upper es

-- from this search and these areas, whatever they hold, so many looks are the most that `next` takes until it is done
abbrev pub LooksBounded : {S : Type 0} → Table → Filter S → View S → Type 0
LooksBounded g f x = (n : ℕ) × (n ≤ suc (all_looks g f x.search.depth x.rows)) × Walks g f n x (walk g f x)

abbrev pub AlwaysBounded : Type 0 → Type 0
AlwaysBounded S = (g : Table) (f : Filter S) → Lawful g → (x : View S) → LooksBounded g f x

-- the search s has answered the end, and has handed out es
pub record Exhausted {S : Type 0} (g : Table) (f : Filter S) (lower upper : BoundValue) (s : Search) (es : List (Entry S)) : Type 0 where
  pub before : View S
  pub call : View S
  pub past : History g f lower upper before es
  pub long_enough : too_short call ≡ false
  pub serves : Serves before call
  pub ended : (next_of g f call).answer ≡ End
  pub left : (next_of g f call).left.search ≡ s

-- there is an exhausted search with the count n
abbrev pub ExhaustedWith : {S : Type 0} → Table → Filter S → BoundValue → BoundValue → ℕ → Type 0
ExhaustedWith {S} g f lower upper n = (s : Search) × (es : List (Entry S)) × Exhausted g f lower upper s es × (s.count ≡ n)

-- an exhausted search has handed out the whole list, and counted it
abbrev pub ExhaustedListsAll : Type 0 → Type 0
ExhaustedListsAll S = (g : Table) (f : Filter S) (lower upper : BoundValue) → Lawful g → LawfulFilter f →
    (s : Search) (es : List (Entry S)) → Exhausted g f lower upper s es → Lists g f lower upper es × (s.count ≡ length es)

-- no state of the filter has an end state
abbrev pub GivesNoEndState : {S : Type 0} → Filter S → Type 0
GivesNoEndState {S} f = (s : S) → f.end_state s ≡ None

-- union and intersection together are as many as the one and the other
abbrev pub UnionAndIntersectionCount : Type 0 → Type 0 → Type 0
UnionAndIntersectionCount A B = (g : Table) (f : Filter A) (h : Filter B) (lower upper : BoundValue) →
    Lawful g → LawfulFilter f → LawfulFilter h → GivesNoEndState f → GivesNoEndState h → (i j k l : ℕ) →
    ExhaustedWith g (union_table f h) lower upper i → ExhaustedWith g (intersection_table f h) lower upper j →
    ExhaustedWith g f lower upper k → ExhaustedWith g h lower upper l → i + j ≡ k + l

-- a filter and its complement together are as many as unfiltered
abbrev pub ComplementCount : Type 0 → Type 0
ComplementCount A = (g : Table) (f : Filter A) (lower upper : BoundValue) → Lawful g → LawfulFilter f → GivesNoEndState f → (i j k : ℕ) →
    ExhaustedWith g f lower upper i → ExhaustedWith g (complement_table f) lower upper j → ExhaustedWith g always_match_table lower upper k → i + j ≡ k

-- a first search has handed out front and then e; a second one, above the key of e and otherwise alike, is exhausted with the count n and has handed out es
pub record GoesOnElsewhere {S : Type 0} (g : Table) (f : Filter S) (lower upper : BoundValue) (front : List (Entry S)) (e : Entry S) (es : List (Entry S)) (n : ℕ) : Type 0 where
  -- the second's entries are exactly the rest
  pub whole : Lists g f lower upper (front ++ (e ∷ es))
  -- the count that the first had when it handed out e, and the second's, make up the whole
  pub together : (z : View S) → History g f lower upper z (front ++ (e ∷ [])) → (fs : List (Entry S)) → Lists g f lower upper fs → z.search.count + n ≡ length fs
  -- and so the first's own count, once it is exhausted too
  pub exhausted : (s : Search) (fs : List (Entry S)) → Exhausted g f lower upper s fs → (fs ≡ front ++ (e ∷ es)) × (length front + 1 + n ≡ s.count)

-- the first search exhausted or not
abbrev pub ResumedListsTheRest : Type 0 → Type 0
ResumedListsTheRest S = (g : Table) (f : Filter S) (lower upper : BoundValue) → Lawful g → LawfulFilter f →
    (y : View S) (front : List (Entry S)) (e : Entry S) (more : List (Entry S)) → History g f lower upper y (front ++ (e ∷ more)) →
    (s : Search) (es : List (Entry S)) → Exhausted g f (excluded e.key) upper s es → GoesOnElsewhere g f lower upper front e es s.count

-- no total is too large
pub record TotalsFit (g : Table) : Type 0 where
  pub paths : (w : Bytes) (m u : ℕ) → Leads g g.root g.first_total w m u → u ≤ most
  pub keys : (k : Bytes) (t : ℕ) → Key g k t → t ≤ most

-- a row more than the root is high, and a byte for each byte of a path
pub record AreasSuffice {S : Type 0} (g : Table) (y : View S) : Type 0 where
  pub rows : g.height g.root + 1 ≤ length y.rows
  pub bytes : g.height g.root ≤ length y.key_area

-- with such totals and areas, and no more entries than the count can hold, every history can be gone on to the end
abbrev pub CanBeExhausted : Type 0 → Type 0
CanBeExhausted S = (g : Table) (f : Filter S) (lower upper : BoundValue) → Lawful g → LawfulFilter f → TotalsFit g →
    ((fs : List (Entry S)) → Lists g f lower upper fs → length fs ≤ most_keys) →
    (y : View S) (es : List (Entry S)) → History g f lower upper y es → AreasSuffice g y →
    (s : Search) × (fs : List (Entry S)) × Exhausted g f lower upper s fs
