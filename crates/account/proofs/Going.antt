-- How an account goes on from call to call of its search, with 256 rows and 255 key bytes. Assumes nothing.
use Rattle.std.proofs.Common.{◌≡◌, ℕ, ◌+◌, ◌<◌, ◌≤◌, List, [], ◌∷◌, ◌++◌, length, take, refl, ap, ◌∙◌, subst, inl, append-nil, arith, length-append}
use Rattle.byte_strings.specs.Order.{Bytes}
use Rattle.bound.specs.Value.{BoundValue}
use Rattle.filter.specs.Filter.{Filter, Lawful as LawfulFilter}
use Rattle.graph.specs.Table.{Table, Lawful}
use Rattle.law.specs.declared.Row.{Row}
use Rattle.law.specs.Entries as law
use Rattle.law.specs.Entries.{Lists}
use Rattle.law.specs.Values.{Search, View, Answer, Handed, End, Refused}
use Rattle.law.specs.History.{History, Serves, entries}
use Rattle.law.specs.Paths.{Follows}
use Rattle.law.specs.Theorems.{Explains}
use Rattle.law.specs.Calls.{NextLaw, GoesOn, CloseLaw, OpenLaw}
use Rattle.law.proofs.Kept.{listable}
use Rattle.law.proofs.Unique.{determined}
use Rattle.input.specs.Number.{most}
use Rattle.input.specs.Asked.{Asked}
use Rattle.account.specs.Account.{entry, entries_of, key_line, end_line, refused_line, report}
use Rattle.account.specs.Searches.{Searches}
use Rattle.account.proofs.Telling.{Told, told_nothing, told_more, told_all, told_refused}

-- how many entries there are
pub count_of_all : {S : Type 0} (g : Table) (f : Filter S) (lower upper : BoundValue) → Lawful g → ℕ
count_of_all g f lower upper lawful = length (listable g f lower upper lawful).0

-- what a search has handed out is printed after start, and there are rows and key bytes enough
pub record Going {S : Type 0} (g : Table) (f : Filter S) (lower upper : BoundValue) (start out : Bytes) (y : View S) : Type 0 where
  pub lawful : Lawful g
  pub lawful_filter : LawfulFilter f
  pub handed : List (law.Entry S)
  pub history : History g f lower upper y handed
  pub told : Told start out handed
  pub rows : 256 ≤ length y.rows
  pub bytes : 255 ≤ length y.key_area

pub begun : {S : Type 0} {g : Table} {f : Filter S} {lower upper : BoundValue} → Lawful g → LawfulFilter f
    → (start : Bytes) (s : Search) (rows : List (Row S)) (area : Bytes) → OpenLaw g f lower upper (inl s) rows area → 256 ≤ length rows → 255 ≤ length area
    → Going g f lower upper start start (record { search = s; rows = rows; key_area = area })
begun {S} l m start s rows area h r b = record {
  lawful = l;
  lawful_filter = m;
  handed = [];
  history = h.history;
  told = told_nothing S start;
  rows = r;
  bytes = b;
}

itself : {S : Type 0} (x : View S) → Serves x x
itself x = record { same = refl; rows_kept = refl; bytes_kept = refl }

module _ {S : Type 0} {g : Table} {f : Filter S} {lower upper : BoundValue} {start out : Bytes} {y : View S} (i : Going g f lower upper start out y) where
  module _ {x : Answer S} {z : View S} (next : NextLaw g f y x z) where
    on : GoesOn g f lower upper y i.handed y x z
    on = next.goes_on lower upper y i.handed i.history (next.still_fits lower upper y i.handed i.history) (itself y)

    -- from the place where the history stands the answer explains what it leaves
    explained : (b : Answer S) → x ≡ b → Explains g f lower upper (Follows on.place) (length y.rows) (length y.key_area) y.search.count on.rest b z
    explained b e = subst (λ (d : Answer S). Explains g f lower upper (Follows on.place) (length y.rows) (length y.key_area) y.search.count on.rest d z) e (on.fits on.place on.stands)

    module _ {n t : ℕ} {s : S} (e : x ≡ Handed n t s) where
      abbrev given : law.Entry S
      given = record { key = take n z.key_area; total = t; state = s }

      pub key_inside : n ≤ length z.key_area
      key_inside = (explained (Handed n t s) e).0

      more : i.handed ++ entries x z.key_area ≡ i.handed ++ (given ∷ [])
      more = ap (λ (b : Answer S). i.handed ++ entries b z.key_area) e

      pub goes : (after : Bytes) → t ≤ most → after ≡ out ++ key_line (entry t (take n z.key_area)) → 256 ≤ length z.rows → 255 ≤ length z.key_area
          → Going g f lower upper start after z
      goes after h p r b = record {
        lawful = i.lawful;
        lawful_filter = i.lawful_filter;
        handed = i.handed ++ (given ∷ []);
        history = subst (λ es. History g f lower upper z es) more on.after;
        told = told_more start out after i.handed given i.told h p;
        rows = r;
        bytes = b;
      }

      -- the count rises, and was below that of all entries
      pub counts : (lawful : Lawful g) → (z.search.count ≡ y.search.count + 1) × (y.search.count < count_of_all g f lower upper lawful)
      unfolding count_of_all
      counts lawful =
          let l = listable g f lower upper lawful in
          let out = (explained (Handed n t s) e).1 in
          let later = out.later in
          let p = out.head in
          let c = on.counted in
          let d : z.search.count ≡ length (i.handed ++ (given ∷ [])) = on.counted_after ∙ ap length more in
          let m : length (i.handed ++ (given ∷ [])) ≡ length i.handed + 1 = length-append i.handed (given ∷ []) in
          let q : length l.0 ≡ length (i.handed ++ (given ∷ later)) =
          ap length (determined g f lower upper lawful l.0 (i.handed ++ on.rest) l.1 on.whole) ∙ ap (λ es. length (i.handed ++ es)) p in
          let j = length-append i.handed (given ∷ later) in
          (omega arith, omega arith)

    module _ {a : Asked} (s : Searches g f lower upper a) where
      pub ends : x ≡ End → (n : ℕ) → CloseLaw S z.search n → (after : Bytes) → after ≡ out ++ end_line n → after ≡ start ++ report 0 (entries_of a)
      ends e n closed after p =
          let none : on.rest ≡ [] = (explained End e).0 in
          let all = subst (λ es. Lists g f lower upper es) (ap (λ es. i.handed ++ es) none ∙ append-nil i.handed) on.whole in
          let same : i.handed ++ entries x z.key_area ≡ i.handed = ap (λ (b : Answer S). i.handed ++ entries b z.key_area) e ∙ append-nil i.handed in
          let m : n ≡ length i.handed =
          closed.counted g f i.lawful i.lawful_filter lower upper z (i.handed ++ entries x z.key_area) on.after refl ∙ ap length same in
          told_all start g f lower upper a s out i.handed i.told all after (p ∙ ap (λ k. out ++ end_line k) m)

      refused : (c : ℕ) → x ≡ Refused c → (c ≡ 16) × (out ++ refused_line 16 ≡ start ++ report 0 (entries_of a))
      refused c e =
          let (v, why, rows, stands) = explained (Refused c) e in
          told_refused start g f lower upper a s out i.handed i.told (Follows on.place) y on.rest v c on.whole on.counted i.rows i.bytes why

      pub refused_by_16 : (c : ℕ) → x ≡ Refused c → c ≡ 16
      refused_by_16 c e = (refused c e).0

      pub stops : (c : ℕ) → x ≡ Refused c → out ++ refused_line 16 ≡ start ++ report 0 (entries_of a)
      stops c e = (refused c e).1
