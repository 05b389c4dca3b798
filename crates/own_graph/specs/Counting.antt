-- What a count owes: the run of the calls that it makes, and in words of the list its number, or why there is none.
use Rattle.std.specs.Prelude.{◌≡◌, ℕ, ◌≤◌, ◌⊎◌, List, ◌++◌, length, Ok, Err, Result}
use Rattle.std.proofs.Common.{inl, inr}
use Rattle.byte_strings.specs.Order.{Bytes, ◌≺◌}
use Rattle.bound.specs.Value.{BoundValue}
use Rattle.graph.specs.Table.{Table, Lawful}
use Rattle.filter.specs.Filter.{Filter}
use Rattle.law.specs.declared.Row.{Row}
use Rattle.law.specs.Entries.{Entry, Lists, ◌∈◌}
use Rattle.law.specs.Values.{Search, View, Handed, End, Refused, most, most_keys}
use Rattle.law.specs.Next.{next_of}
use Rattle.law.specs.Open.{Opening}
use Rattle.law.specs.Paths.{Follows, at_start, Reason, FitToBound}
use Rattle.law.specs.Calls.{OpenReason}
use Rattle.search.specs.declared.refusal.Refusal.{Refusal}
use Rattle.search.specs.Numbers.{number_of}

-- calls of `next` from x on, each on what the one before left, all but the last of which hand out a key:
-- they come to the count at the end, or to the number of a refusal, and leave z
pub data Runs {S : Type 0} (g : Table) (f : Filter S) : View S → ℕ ⊎ ℕ → View S → Type 0 where
  ends : {x z : View S} → next_of g f x ≡ record { answer = End; left = z } → Runs g f x (inl z.search.count) z
  stops : {x z : View S} {c : ℕ} → next_of g f x ≡ record { answer = Refused c; left = z } → Runs g f x (inr c) z
  hands : {x y z : View S} {n t : ℕ} {s : S} {r : ℕ ⊎ ℕ} → next_of g f x ≡ record { answer = Handed n t s; left = y } →
      Runs g f y r z → Runs g f x r z

abbrev pub counted_by : Result ℕ Refusal → ℕ ⊎ ℕ
counted_by (Ok n) = inl n
counted_by (Err e) = inr (number_of e)

-- the search that an opening answers, with the areas that it leaves
abbrev pub view_after : {S : Type 0} → Opening S → Search → View S
view_after o s = record { search = s; rows = o.rows; key_area = o.key_area }

-- a search is opened and run: the result, and the rows and key bytes that are left
pub data Counts {S : Type 0} (g : Table) (f : Filter S) (o : Opening S) : ℕ ⊎ ℕ → List (Row S) → Bytes → Type 0 where
  unopened : (c : ℕ) → o.outcome ≡ inr c → Counts g f o (inr c) o.rows o.key_area
  opened : (s : Search) → o.outcome ≡ inl s → (r : ℕ ⊎ ℕ) (z : View S) → Runs g f (view_after o s) r z →
      Counts g f o r z.rows z.key_area

-- with areas of these numbers of rows and bytes nothing stops the count: n is the length of the rising list of all
-- accepted keys within the bounds
pub record CountsList {S : Type 0} (g : Table) (f : Filter S) (lower upper : BoundValue) (rows bytes n : ℕ) : Type 0 where
  pub opens : (c : ℕ) → OpenReason g lower rows bytes c → ⊥
  pub list : List (Entry S)
  pub whole : Lists g f lower upper list
  pub number : n ≡ length list
  pub fit : FitToBound g f lower upper (Follows at_start) rows bytes
  pub totals_fit : (e : Entry S) → e ∈ list → e.total ≤ most
  pub few : length list ≤ most_keys

-- why with such areas nothing is counted: the opening has a reason to be refused, or the path v stops the search, which
-- has handed out es, all before v
pub data CannotCount {S : Type 0} (g : Table) (f : Filter S) (lower upper : BoundValue) (rows bytes c : ℕ) : Type 0 where
  not_opened : OpenReason g lower rows bytes c → CannotCount g f lower upper rows bytes c
  stopped : ((d : ℕ) → OpenReason g lower rows bytes d → ⊥) → (es rest : List (Entry S)) (v : Bytes) → Lists g f lower upper (es ++ rest) →
      ((e : Entry S) → e ∈ es → (e.key ≺ v) × (e.total ≤ most)) → length es ≤ most_keys →
      Reason g f lower upper (Follows at_start) rows bytes (length es) rest v c → CannotCount g f lower upper rows bytes c

-- there is one number, or one refusal, and not both
pub record OneCount {S : Type 0} (g : Table) (f : Filter S) (lower upper : BoundValue) (rows bytes : ℕ) : Type 0 where
  pub one_number : (n m : ℕ) → CountsList g f lower upper rows bytes n → CountsList g f lower upper rows bytes m → n ≡ m
  pub one_refusal : (c d : ℕ) → CannotCount g f lower upper rows bytes c → CannotCount g f lower upper rows bytes d → c ≡ d
  pub not_both : (n c : ℕ) → CountsList g f lower upper rows bytes n → CannotCount g f lower upper rows bytes c → ⊥

abbrev pub CountDetermined : Type 0 → Type 0
CountDetermined S = (g : Table) (f : Filter S) (lower upper : BoundValue) → Lawful g → (rows bytes : ℕ) → OneCount g f lower upper rows bytes
