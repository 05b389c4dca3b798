-- How a caller goes on to the end, and a second one above the first one's key. Assumes nothing.
use Rattle.std.proofs.Common.{◌≡◌, ℕ, suc, ◌+◌, ◌<◌, true, false, List, [], ◌∷◌, ◌++◌, sym, length, is_some, Some, None, Option, refl, ap, ◌∙◌, subst, arith, length-append}
use Rattle.bound.specs.Value.{BoundValue, unbounded, excluded}
use Rattle.byte_strings.specs.Order.{Bytes}
use Rattle.graph.specs.Table.{Table, Lawful}
use Rattle.filter.specs.Filter.{Filter, Lawful as LawfulFilter}
use Rattle.law.specs.Entries.{Entry, Lists}
use Rattle.law.specs.Values.{View, Answer, Handed, Search, Part, Standing}
use Rattle.law.specs.History.{Serves, History, entries}
use Rattle.law.specs.Paths.{Follows}
use Rattle.law.specs.Theorems.{Exhausted, Explains}
use Rattle.law.specs.Calls.{NextLaw, GoesOn, CloseLaw, KeyLaw, stands_after}
use Rattle.law.proofs.Unique.{determined}
use Rattle.law.proofs.Kept.{listable}
use Rattle.search.specs.Answers.{item_of}
use Rattle.own_graph.specs.Exhausting.{IsExhausted}

module _ {S : Type 0} (g : Table) (f : Filter S) (lo hi : BoundValue) (x : View S) (a : Answer S) (z : View S) (law : NextLaw g f x a z) (es : List (Entry S)) (h : History g f lo hi x es) where
  itself : Serves x x
  itself = record { same = refl; rows_kept = refl; bytes_kept = refl }

  goes_on : GoesOn g f lo hi x es x a z
  goes_on = law.goes_on lo hi x es h (law.still_fits lo hi x es h) itself

  -- a key handed out: the history goes on, and the count, which was below the length of the list, rises
  pub handed : (l : Lawful g) → (item : Option (ℕ × ℕ × S)) → is_some item ≡ true → a ≡ item_of item →
      ((fs : List (Entry S)) × History g f lo hi z fs) × (x.search.count < z.search.count) × (x.search.count < length (listable g f lo hi l).0)
  handed l None p q = cc
  handed l (Some (n, t, s)) p q =
      let o = goes_on in
      let c = o.counted in
      let d : z.search.count ≡ length es + 1 = o.counted_after ∙ ap (λ (b : Answer S). length (es ++ entries b z.key_area)) q ∙ length-append es _ in
      let fits = subst (λ (b : Answer S). Explains g f lo hi (Follows o.place) (length x.rows) (length x.key_area) x.search.count o.rest b z) q (o.fits o.place o.stands) in
      let k : length (listable g f lo hi l).0 ≡ length es + length o.rest =
      ap length (determined g f lo hi l (listable g f lo hi l).0 (es ++ o.rest) (listable g f lo hi l).1 o.whole) ∙ length-append es o.rest in
      let j : length o.rest ≡ suc (length fits.1.later) = ap length fits.1.head in
      ((es ++ entries a z.key_area, o.after), omega arith, omega arith)

  pub finished : (item : Option (ℕ × ℕ × S)) → is_some item ≡ false → a ≡ item_of item → IsExhausted g f lo hi z.search
  finished (Some i) p q = cc
  finished None p q = (es, goes_on.exhausted q)

-- a first call that answers the end: there are no keys
pub no_key : {S : Type 0} (g : Table) (f : Filter S) → Lawful g → (lo hi : BoundValue) (x : View S) (a : Answer S) (z : View S) → NextLaw g f x a z → History g f lo hi x [] →
    (item : Option (ℕ × ℕ × S)) → is_some item ≡ false → a ≡ item_of item → (fs : List (Entry S)) → Lists g f lo hi fs → fs ≡ []
no_key g f l lo hi x a z law h (Some i) p q fs ls = cc
no_key {S} g f l lo hi x a z law h None p q fs ls =
    let o = goes_on g f lo hi x a z law [] h in
    let none : o.rest ≡ [] = (subst (λ (b : Answer S). Explains g f lo hi (Follows o.place) (length x.rows) (length x.key_area) x.search.count o.rest b z) q (o.fits o.place o.stands)).0 in
    determined g f lo hi l fs o.rest ls o.whole ∙ none

-- a first search that stands at its first key, and one above that key
module _ {S : Type 0} (g : Table) (f : Filter S) (l : Lawful g) (m : LawfulFilter f) (x : View S) (a : Answer S) (z : View S) (law : NextLaw g f x a z) (h : History g f unbounded unbounded x []) where
  pub first_key : (item : Option (ℕ × ℕ × S)) → is_some item ≡ true → a ≡ item_of item → (p : Part) → KeyLaw z p → (k : Bytes) → p ≡ Standing k →
      (s : Search) → IsExhausted g f (excluded k) unbounded s → (n : ℕ) → CloseLaw S s n → (c : ℕ) → CloseLaw S z.search c →
      (fs : List (Entry S)) → Lists g f unbounded unbounded fs → c + n ≡ length fs
  first_key None q e p keyed k pk s₁ x₁ n closed c closed₁ fs ls = cc
  first_key (Some (i, t, s)) q e p keyed k pk s₁ x₁ n closed c closed₁ fs ls =
      let o = goes_on g f unbounded unbounded x a z law [] h in
      let hz : History g f unbounded unbounded z (entries (Handed i t s) z.key_area) = subst (λ (b : Answer S). History g f unbounded unbounded z ([] ++ entries b z.key_area)) e o.after in
      let st : z.search.standing ≡ true = law.standing ∙ ap stands_after e in
      let (front, en, same, pe) = keyed.stands g f l m unbounded unbounded z _ hz (law.still_fits unbounded unbounded z _ hz) (record { same = refl; rows_kept = refl; bytes_kept = refl }) st in
      let ke : k ≡ en.key = let y : Standing k ≡ Standing en.key = sym pk ∙ pe in cc in
      let h2 : History g f unbounded unbounded z (front ++ (en ∷ [])) = subst (λ (es : List (Entry S)). History g f unbounded unbounded z es) same hz in
      let x2 : Exhausted g f (excluded en.key) unbounded s₁ x₁.0 = subst (λ (b : Bytes). Exhausted g f (excluded b) unbounded s₁ x₁.0) ke x₁.1 in
      let r = closed.resumed g f l m unbounded unbounded z front en [] h2 x₁.0 x2 in
      let cz : c ≡ z.search.count = closed₁.counted g f l m unbounded unbounded z _ hz refl ∙ sym (o.counted_after ∙ ap (λ (b : Answer S). length ([] ++ entries b z.key_area)) e) in
      let t₂ = r.together z h2 fs ls in
      omega arith
