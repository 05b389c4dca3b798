-- What each call owes, from the law of the search. Assumes nothing.
use Rattle.std.proofs.Common.{◌≡◌, ℕ, ◌+◌, Bool, true, false, eqb, Some, None, ◌⊎◌, List, [], ◌++◌, length, sym, refl, ap, ◌∙◌, subst, inl, inr, eq-eqb}
use Rattle.byte_strings.specs.Order.{Bytes}
use Rattle.bound.specs.Value.{BoundValue}
use Rattle.graph.specs.Table.{Table, Lawful}
use Rattle.filter.specs.Filter.{Filter, verdict_at, Lawful as LawfulFilter}
use Rattle.law.specs.declared.Row.{Row}
use Rattle.law.specs.Values.{Search, View, Answer, Part, Result, with_search, without_key, without_waiting, too_short, is_admitted}
use Rattle.law.specs.Next.{next_of, key_of, walk, Walks}
use Rattle.law.specs.Open.{open_of}
use Rattle.law.specs.History.{opened, next, next_refused, given_out}
use Rattle.law.specs.Theorems.{GoesOnElsewhere}
use Rattle.law.specs.Calls.{NextLaw, NextEnds, KeyLaw, CloseLaw, UnionLaw, ComplementLaw, OpenLaw, Opened, OpenReason, Looked}
use Rattle.law.proofs.Looks.{always_bounded}
use Rattle.law.proofs.Stands.{next_tells}
use Rattle.law.proofs.Histories.{history_fits, unstood_keeps_place, handed_out_is_front, exhausted_lists_all}
use Rattle.law.proofs.Combined.{union_and_intersection_count, complement_count, resumed_lists_the_rest}
use Rattle.law.proofs.Opening.{open_well}
use Rattle.law.proofs.Refuses.{open_reason, opened_fits, open_size}

pub close_law : {S : Type 0} (s : Search) (n : ℕ) → n ≡ s.count → CloseLaw S s n
close_law s n q = record {
  counted = λ g f law lawful lo hi y es h e. q ∙ ap (λ (z : Search). z.count) (sym e) ∙ (handed_out_is_front g f lo hi law lawful y es h).counted;
  complete = λ g f law lawful lo hi es x. let c = exhausted_lists_all g f lo hi law lawful s es x in (c.0, q ∙ c.1);
  resumed = λ g f law lawful lo hi y front e more h es x.
      subst (λ (m : ℕ). GoesOnElsewhere g f lo hi front e es m) (sym q) (resumed_lists_the_rest g f lo hi law lawful y front e more h s es x);
}

pub union_law : {A B : Type 0} (i j k l : Search) (r : Bool) → r ≡ eqb (i.count + j.count) (k.count + l.count) → UnionLaw A B i j k l r
union_law i j k l r q = record {
  agrees = λ g f h law p p₁ n n₁ lo hi es fs a b ls c rs d.
      let sum = union_and_intersection_count g f h lo hi law p p₁ n n₁ i.count j.count k.count l.count (i, es, a, refl) (j, fs, b, refl) (k, ls, c, refl) (l, rs, d, refl) in
      (q ∙ eq-eqb (i.count + j.count) (k.count + l.count) sum, sum);
}

pub complement_law : {A : Type 0} (i j k : Search) (r : Bool) → r ≡ eqb (i.count + j.count) k.count → ComplementLaw A i j k r
complement_law i j k r q = record {
  agrees = λ g f law p n lo hi es fs a b us c.
      let sum = complement_count g f lo hi law p n i.count j.count k.count (i, es, a, refl) (j, fs, b, refl) (k, us, c, refl) in
      (q ∙ eq-eqb (i.count + j.count) k.count sum, sum);
}

pub open_law : {S : Type 0} (g : Table) (f : Filter S) → Lawful g → (lo hi : BoundValue) (rows : List (Row S)) (area : Bytes) (o : Search ⊎ ℕ) (rows₁ : List (Row S)) (area₁ : Bytes) →
    o ≡ (open_of g f lo hi rows area).outcome → rows₁ ≡ (open_of g f lo hi rows area).rows → area₁ ≡ (open_of g f lo hi rows area).key_area → OpenLaw g f lo hi o rows₁ area₁
open_law {S} g f law lo hi rows area (inr n) rows₁ area₁ e p q =
    subst (λ (z : List (Row S)). OpenReason g lo (length z) (length area₁) n) (sym p)
    (subst (λ (z : Bytes). OpenReason g lo (length (open_of g f lo hi rows area).rows) (length z) n) (sym q) (open_reason g f lo hi law rows area n (sym e)))
open_law {S} g f law lo hi rows area (inl s) rows₁ area₁ e p q =
    subst (λ (z : List (Row S)). Opened g f lo hi (record { search = s; rows = z; key_area = area₁ })) (sym p)
    (subst (λ (z : Bytes). Opened g f lo hi (record { search = s; rows = (open_of g f lo hi rows area).rows; key_area = z })) (sym q) (record {
      history = opened rows area s (sym e);
      stands = (open_well g f hi law lo rows area s (sym e)).1;
      no_reason = λ c. subst (λ (i : ℕ). OpenReason g lo i (length (open_of g f lo hi rows area).key_area) c → ⊥) (sym (open_size g f lo hi law rows area).0)
          (subst (λ (i : ℕ). OpenReason g lo (length rows) i c → ⊥) (sym (open_size g f lo hi law rows area).1) (opened_fits g f lo hi law rows area s (sym e) c));
    }))

-- a call that walks from v on
looked : {S : Type 0} (g : Table) (f : Filter S) → Lawful g → (x v : View S) → next_of g f x ≡ walk g f v → Looked g f v (next_of g f x).answer (next_of g f x).left
looked g f law x v e = let (n, l, w) = always_bounded g f law v in (n, l, subst (λ (r : Result _). Walks g f n v r) (sym e) w)

next_is_walk : {S : Type 0} (g : Table) (f : Filter S) (x : View S) → too_short x ≡ false → x.search.waiting ≡ None → next_of g f x ≡ walk g f (with_search (without_key x.search) x)
unfolding next_of
next_is_walk g f x sh w = rw (sh, w)

next_walks_on : {S : Type 0} (g : Table) (f : Filter S) (x : View S) (t : ℕ) → too_short x ≡ false → x.search.waiting ≡ Some t → is_admitted x.search.upper [] ≡ true → verdict_at f f.start ≡ false →
    next_of g f x ≡ walk g f (with_search (without_waiting (without_key x.search)) x)
unfolding next_of
next_walks_on g f x t sh w i v = rw (sh, w, i, v)

goes_on_of : {S : Type 0} (g : Table) (f : Filter S) → Lawful g → LawfulFilter f → (x : View S) → NextLaw g f x (next_of g f x).answer (next_of g f x).left
goes_on_of g f law lawful x = record {
  goes_on = λ lo hi y es h sh sv.
      let o = handed_out_is_front g f lo hi law lawful y es h in
      record {
        rest = o.rest;
        whole = o.whole;
        counted = ap (λ (s : Search). s.count) sv.same ∙ o.counted;
        place = o.place;
        stands = o.stands;
        fits = o.following x sh sv;
        after = next h x sh sv;
        counted_after = (handed_out_is_front g f lo hi law lawful (next_of g f x).left (es ++ given_out (next_of g f x)) (next h x sh sv)).counted;
        exhausted = λ e. record { before = y; call = x; past = h; long_enough = sh; serves = sv; ended = e; left = refl };
      };
  areas_too_short = λ lo hi y es h sh e. (((handed_out_is_front g f lo hi law lawful y es h).narrow x sh).0, next_refused h x e sh, unstood_keeps_place g f lo hi law lawful x y sh e);
  still_fits = λ lo hi y es h. history_fits g f lo hi law lawful y es h;
  standing = next_tells g f x;
}

ends_of : {S : Type 0} (g : Table) (f : Filter S) → Lawful g → (x : View S) → NextEnds g f x (next_of g f x).answer (next_of g f x).left
ends_of g f law x = record {
  looks_bounded = λ sh w. looked g f law x (with_search (without_key x.search) x) (next_is_walk g f x sh w);
  later_looks_bounded = λ t sh w i v. looked g f law x (with_search (without_waiting (without_key x.search)) x) (next_walks_on g f x t sh w i v);
}

pub next_law : {S : Type 0} (g : Table) (f : Filter S) → Lawful g → LawfulFilter f → (x : View S) (a : Answer S) (z : View S) → a ≡ (next_of g f x).answer → z ≡ (next_of g f x).left → NextLaw g f x a z
next_law g f law lawful x a z p q =
    subst (λ (w : View _). NextLaw g f x a w) (sym q) (subst (λ (b : Answer _). NextLaw g f x b (next_of g f x).left) (sym p) (goes_on_of g f law lawful x))

pub next_ends : {S : Type 0} (g : Table) (f : Filter S) → Lawful g → (x : View S) (a : Answer S) (z : View S) → a ≡ (next_of g f x).answer → z ≡ (next_of g f x).left → NextEnds g f x a z
next_ends g f law x a z p q =
    subst (λ (w : View _). NextEnds g f x a w) (sym q) (subst (λ (b : Answer _). NextEnds g f x b (next_of g f x).left) (sym p) (ends_of g f law x))

pub key_law : {S : Type 0} (x : View S) (p : Part) → p ≡ key_of x → KeyLaw x p
unfolding key_of
key_law x p q = record {
  stands = λ g f law lawful lo hi y es h sh sv st.
      let o = handed_out_is_front g f lo hi law lawful y es h in
      let (front, e, same, k) = o.stood (ap (λ (s : Search). s.standing) (sym sv.same) ∙ st) in
      (front, e, same, q ∙ k x sh sv);
  areas_too_short = λ sh. q ∙ rw sh;
  none_stands = λ sh st. q ∙ rw (sh, st);
}
