-- The law of the search, as each call owes it to every history. Assumes nothing.
use Rattle.std.specs.Prelude.{◌≡◌, ℕ, suc, ◌+◌, ◌<◌, ◌≤◌, Bool, true, false, ◌⊎◌, List, [], ◌∷◌, ◌++◌, length, Some, None}
use Rattle.std.proofs.Common.{inl, inr}
use Rattle.byte_strings.specs.Order.{Bytes}
use Rattle.bound.specs.Value.{BoundValue, bytes_of, excluded}
use Rattle.bound.specs.Within.{From}
use Rattle.graph.specs.Table.{Table, Lawful}
use Rattle.graph.specs.Keys.{Leads, Key}
use Rattle.filter.specs.Filter.{Filter, verdict_at, Lawful as LawfulFilter}
use Rattle.filter.specs.declared.PairState.{PairState}
use Rattle.filter.specs.Tables.{union_table, intersection_table, complement_table, always_match_table}
use Rattle.law.specs.declared.Row.{Row}
use Rattle.law.specs.Entries.{Entry, Lists}
use Rattle.law.specs.Values.{most, Search, View, Answer, Handed, End, Refused, Part, Standing, NoPart, with_search, without_key, without_waiting, too_short, is_admitted}
use Rattle.law.specs.Next.{all_looks, Walks}
use Rattle.law.specs.History.{Serves, History, entries}
use Rattle.law.specs.Paths.{Place, at_start, HasRoom}
use Rattle.law.specs.Standing.{StandsAt}
use Rattle.law.specs.Theorems.{Fits, Exhausted, GivesNoEndState, GoesOnElsewhere}

-- a call of `next` with the view x, which answered a and left z, after a history that left y with es handed out
pub record GoesOn {S : Type 0} (g : Table) (f : Filter S) (lower upper : BoundValue) (y : View S) (es : List (Entry S)) (x : View S) (a : Answer S) (z : View S) : Type 0 where
  pub rest : List (Entry S)
  -- what was handed out is the front of the list
  pub whole : Lists g f lower upper (es ++ rest)
  pub counted : x.search.count ≡ length es
  -- y stands at a place, and from there the answer is the head of the rest, or the end where there is none, or a refusal with its reason
  pub place : Place
  pub stands : StandsAt g f lower y place
  pub fits : Fits g f lower upper y rest x a z
  -- and the search goes on from what is left
  pub after : History g f lower upper z (es ++ entries a z.key_area)
  pub counted_after : z.search.count ≡ length (es ++ entries a z.key_area)
  pub exhausted : a ≡ End → Exhausted g f lower upper z.search es

-- whether a key stands after an answer
abbrev pub stands_after : {S : Type 0} → Answer S → Bool
stands_after (Handed n t s) = true
stands_after End = false
stands_after (Refused c) = false

-- from v on the answer a, which leaves z, is that of so many looks, and of no more than its rows can cost and one
abbrev pub Looked : {S : Type 0} → Table → Filter S → View S → Answer S → View S → Type 0
Looked g f v a z = (n : ℕ) × (n ≤ suc (all_looks g f v.search.depth v.rows)) × Walks g f n v (record { answer = a; left = z })

-- what every call of `next` owes to every history that it goes on
pub record NextLaw {S : Type 0} (g : Table) (f : Filter S) (x : View S) (a : Answer S) (z : View S) : Type 0 where
  pub goes_on : (lower upper : BoundValue) (y : View S) (es : List (Entry S)) → History g f lower upper y es → too_short x ≡ false → Serves y x → GoesOn g f lower upper y es x a z
  -- areas too short: nothing but the standing key is lost, and the search stands where it stood
  pub areas_too_short : (lower upper : BoundValue) (y : View S) (es : List (Entry S)) → History g f lower upper y es → too_short x ≡ true → x.search ≡ y.search →
      (a ≡ Refused 13) × History g f lower upper (with_search z.search y) es ×
      ((p : Place) → StandsAt g f lower y p → StandsAt g f lower (with_search z.search y) p)
  -- areas as a history left them are long enough for it: 13 never refuses a call with them
  pub still_fits : (lower upper : BoundValue) (y : View S) (es : List (Entry S)) → History g f lower upper y es → too_short y ≡ false
  -- a key stands exactly where one was handed out
  pub standing : z.search.standing ≡ stands_after a

-- a call of `next` ends, whatever the search and the areas hold: where no total waits, or one whose key is not accepted, its answer is that of so many looks at most
pub record NextEnds {S : Type 0} (g : Table) (f : Filter S) (x : View S) (a : Answer S) (z : View S) : Type 0 where
  pub looks_bounded : too_short x ≡ false → x.search.waiting ≡ None → Looked g f (with_search (without_key x.search) x) a z
  pub later_looks_bounded : (t : ℕ) → too_short x ≡ false → x.search.waiting ≡ Some t → is_admitted x.search.upper [] ≡ true → verdict_at f f.start ≡ false →
      Looked g f (with_search (without_waiting (without_key x.search)) x) a z

-- what every call of `key` owes: while a key stands, it is that of the entry handed out last
pub record KeyLaw {S : Type 0} (x : View S) (p : Part) : Type 0 where
  pub stands : (g : Table) (f : Filter S) → Lawful g → LawfulFilter f → (lower upper : BoundValue) (y : View S) (es : List (Entry S)) →
      History g f lower upper y es → too_short x ≡ false → Serves y x → x.search.standing ≡ true →
      (front : List (Entry S)) × (e : Entry S) × (es ≡ front ++ (e ∷ [])) × (p ≡ Standing e.key)
  pub areas_too_short : too_short x ≡ true → p ≡ NoPart 13
  pub none_stands : too_short x ≡ false → x.search.standing ≡ false → p ≡ NoPart 18

-- why an `open` with areas of these numbers of rows and key bytes is refused
pub data OpenReason (g : Table) (lower : BoundValue) (rows bytes : ℕ) : ℕ → Type 0 where
  too_few_rows : rows ≤ length (bytes_of lower) → OpenReason g lower rows bytes 14
  too_few_bytes : length (bytes_of lower) < rows → bytes < length (bytes_of lower) → OpenReason g lower rows bytes 15
  -- 16: the sum along a front of the bound, not the empty one
  path_too_large : HasRoom rows bytes (bytes_of lower) → (w : Bytes) (b : ℕ) (x : Bytes) (m u : ℕ) → bytes_of lower ≡ w ++ (b ∷ x) →
      Leads g g.root g.first_total (w ++ (b ∷ [])) m u → most < u → OpenReason g lower rows bytes 16
  -- 16: the total of the empty key, where the bound is absent or empty and lets it in
  empty_key_too_large : HasRoom rows bytes (bytes_of lower) → bytes_of lower ≡ [] → From lower [] →
      (t : ℕ) → Key g [] t → most < t → OpenReason g lower rows bytes 16

-- an opened search begins its history with nothing handed out and all its paths to come, and there is no reason to refuse it
pub record Opened {S : Type 0} (g : Table) (f : Filter S) (lower upper : BoundValue) (z : View S) : Type 0 where
  pub history : History g f lower upper z []
  pub stands : StandsAt g f lower z at_start
  pub no_reason : (c : ℕ) → OpenReason g lower (length z.rows) (length z.key_area) c → ⊥

-- what every call of `open` owes
abbrev pub OpenLaw : {S : Type 0} → Table → Filter S → BoundValue → BoundValue → Search ⊎ ℕ → List (Row S) → Bytes → Type 0
OpenLaw g f lower upper (inl s) rows area = Opened g f lower upper (record { search = s; rows = rows; key_area = area })
OpenLaw g f lower upper (inr n) rows area = OpenReason g lower (length rows) (length area) n

-- what `close` owes of the search s over filters with states of type S: the number of entries handed out, and of an exhausted search that of the whole list
pub record CloseLaw (S : Type 0) (s : Search) (n : ℕ) : Type 0 where
  pub counted : (g : Table) (f : Filter S) → Lawful g → LawfulFilter f → (lower upper : BoundValue) (y : View S) (es : List (Entry S)) →
      History g f lower upper y es → y.search ≡ s → n ≡ length es
  pub complete : (g : Table) (f : Filter S) → Lawful g → LawfulFilter f → (lower upper : BoundValue) (es : List (Entry S)) →
      Exhausted g f lower upper s es → Lists g f lower upper es × (n ≡ length es)
  -- going on elsewhere: s was opened above the key of e, which a first search, exhausted or not, has handed out after front
  pub resumed : (g : Table) (f : Filter S) → Lawful g → LawfulFilter f → (lower upper : BoundValue) (y : View S) (front : List (Entry S)) (e : Entry S) (more : List (Entry S)) →
      History g f lower upper y (front ++ (e ∷ more)) → (es : List (Entry S)) → Exhausted g f (excluded e.key) upper s es → GoesOnElsewhere g f lower upper front e es n

-- four exhausted searches over one graph and bounds, of the union of two filters without end states, of their intersection, of the one and of the other: their counts agree
pub record UnionLaw (A B : Type 0) (union intersection left right : Search) (agree : Bool) : Type 0 where
  pub agrees : (g : Table) (f : Filter A) (h : Filter B) → Lawful g → LawfulFilter f → LawfulFilter h → GivesNoEndState f → GivesNoEndState h → (lower upper : BoundValue) →
      (es fs : List (Entry (PairState A B))) → Exhausted g (union_table f h) lower upper union es → Exhausted g (intersection_table f h) lower upper intersection fs →
      (ls : List (Entry A)) → Exhausted g f lower upper left ls → (rs : List (Entry B)) → Exhausted g h lower upper right rs →
      (agree ≡ true) × (union.count + intersection.count ≡ left.count + right.count)

-- three exhausted searches over one graph and bounds, of a filter without end states, of its complement, and unfiltered: their counts agree
pub record ComplementLaw (A : Type 0) (matching others unfiltered : Search) (agree : Bool) : Type 0 where
  pub agrees : (g : Table) (f : Filter A) → Lawful g → LawfulFilter f → GivesNoEndState f → (lower upper : BoundValue) →
      (es fs : List (Entry A)) → Exhausted g f lower upper matching es → Exhausted g (complement_table f) lower upper others fs →
      (us : List (Entry (Unit {0}))) → Exhausted g always_match_table lower upper unfiltered us →
      (agree ≡ true) × (matching.count + others.count ≡ unfiltered.count)

-- one answer only: two answers to one call after one history that both keep the law are the same; they leave the search at the same
-- places, and a refusal with as many rows in use
abbrev pub AnswerDetermined : Type 0 → Type 0
AnswerDetermined S = (g : Table) (f : Filter S) (lower upper : BoundValue) → Lawful g → LawfulFilter f →
    (y : View S) (es : List (Entry S)) → History g f lower upper y es → (x : View S) (a b : Answer S) (z u : View S) →
    GoesOn g f lower upper y es x a z → GoesOn g f lower upper y es x b u →
    (a ≡ b) × ((p : Place) → StandsAt g f lower z p → StandsAt g f lower u p) ×
    ((c : ℕ) → a ≡ Refused c → z.search.depth ≡ u.search.depth)

-- and an opening is refused by one number only
abbrev pub OpenReasonDetermined : Type 0
OpenReasonDetermined = (g : Table) (lower : BoundValue) (rows bytes c d : ℕ) →
    OpenReason g lower rows bytes c → OpenReason g lower rows bytes d → c ≡ d
