-- What a count answers is determined. Assumes nothing.
use Rattle.std.proofs.Common.{◌≡◌, ℕ, ◌<◌, ◌≤◌, ◌⊎◌, List, [], ◌∷◌, ◌++◌, length, sym, refl, ap, ◌∙◌, subst, inl, inr, arith, length-append}
use Rattle.byte_strings.specs.Order.{Bytes, ◌≺◌}
use Rattle.byte_strings.proofs.Orders.{irreflexive, transitive}
use Rattle.bound.specs.Value.{BoundValue}
use Rattle.graph.specs.Table.{Table, Lawful}
use Rattle.filter.specs.Filter.{Filter}
use Rattle.law.specs.Entries.{Entry, Lists, Rises, ◌∈◌}
use Rattle.law.specs.Values.{most, most_keys}
use Rattle.law.specs.Paths.{at_start, Follows, PathFits, ComesTo, Stops, stack_full, key_area_full, path_too_large, total_too_large, count_full, Reason}
use Rattle.law.proofs.Unique.{determined}
use Rattle.law.proofs.Members.{in_right, in_either}
use Rattle.law.proofs.Determinacy.{three_ways, one_reason, one_open_reason}
use Rattle.own_graph.specs.Counting.{CountsList, CannotCount, not_opened, stopped, CountDetermined}

-- v is not after the key
abbrev From : {S : Type 0} → Bytes → Entry S → Type 0
From v e = (v ≡ e.key) ⊎ (v ≺ e.key)

never : {S : Type 0} (v : Bytes) (e : Entry S) → e.key ≺ v → From v e → ⊥
never v e t (inl d) = irreflexive v (subst (λ (z : Bytes). z ≺ v) (sym d) t)
never v e t (inr s) = irreflexive v (transitive v e.key v s t)

-- a list is parted at v in one way
one_parting : {S : Type 0} (v : Bytes) (xs ys zs ws : List (Entry S)) → xs ++ ys ≡ zs ++ ws → ((e : Entry S) → e ∈ xs → e.key ≺ v) → ((e : Entry S) → e ∈ zs → e.key ≺ v) →
    ((e : Entry S) → e ∈ ys → From v e) → ((e : Entry S) → e ∈ ws → From v e) → (xs ≡ zs) × (ys ≡ ws)
one_parting v [] ys [] ws e a b c d = (refl, e)
one_parting {S} v [] ys (z ∷ zs) ws e a b c d = absurd (never v z (b z (inl refl)) (c z (subst (λ (l : List (Entry S)). z ∈ l) (sym e) (inl refl))))
one_parting {S} v (x ∷ xs) ys [] ws e a b c d = absurd (never v x (a x (inl refl)) (d x (subst (λ (l : List (Entry S)). x ∈ l) e (inl refl))))
one_parting v (x ∷ xs) ys (z ∷ zs) ws e a b c d =
    let p : x ≡ z = cc in
    let q : xs ++ ys ≡ zs ++ ws = cc in
    let (r, s) = one_parting v xs ys zs ws q (λ y m. a y (inr m)) (λ y m. b y (inr m)) c d in
    (cc, s)

-- the entry after xs stands in a longer front
longer : {S : Type 0} (e : Entry S) (xs later zs ws : List (Entry S)) → xs ++ (e ∷ later) ≡ zs ++ ws → Rises (xs ++ (e ∷ later)) → e ∈ zs → length xs < length zs
longer e [] later [] ws p r m = absurd m
longer e [] later (z ∷ zs) ws p r m = omega arith
longer e (x ∷ xs) later [] ws p r m = absurd m
longer e (x ∷ xs) later (z ∷ zs) ws p r (inl d) =
    let q : x ≡ z = cc in
    absurd (irreflexive e.key (subst (λ (y : Entry _). y.key ≺ e.key) (q ∙ sym d) (r.0 e (in_right e xs (e ∷ later) (inl refl)))))
longer e (x ∷ xs) later (z ∷ zs) ws p r (inr m) =
    let q : xs ++ (e ∷ later) ≡ zs ++ ws = cc in
    let l = longer e xs later zs ws q r.1 m in
    omega arith

module _ {S : Type 0} (g : Table) (f : Filter S) (lo hi : BoundValue) (law : Lawful g) (rows bytes : ℕ) where
  abbrev Why : List (Entry S) → List (Entry S) → Bytes → ℕ → Type 0
  Why es rest v c = Reason g f lo hi (Follows at_start) rows bytes (length es) rest v c

  abbrev Comes : List (Entry S) → List (Entry S) → Bytes → ℕ → Type 0
  Comes es rest v u = ComesTo g f lo hi (Follows at_start) rows bytes rest v u

  comes : (es rest : List (Entry S)) (v : Bytes) (c : ℕ) → Why es rest v c → (u : ℕ) × Comes es rest v u
  comes es rest v c (u, m, s) = (u, m)

  -- a path that fits is no reason, unless it is the key of an entry that stops
  no_reason : (es rest : List (Entry S)) (v : Bytes) (c : ℕ) → Why es rest v c → ((u : ℕ) → Comes es rest v u → PathFits rows bytes v u) →
      ((e : Entry S) (later : List (Entry S)) → rest ≡ e ∷ later → v ≡ e.key → (e.total ≤ most) × (length es < most_keys)) → ⊥
  no_reason es rest v c (u, m, s) a b = go s
    where
      go : {c : ℕ} → Stops rows bytes (length es) rest v u c → ⊥
      go (stack_full h) = let n = (a u m).room.row_free in omega arith
      go (key_area_full h i) = let n = (a u m).room.byte_free in omega arith
      go (path_too_large h i) = let n = (a u m).sum_fits in omega arith
      go (total_too_large h t (r, later, p) i) = let z = (b (record { key = v; total = t; state = r }) later p refl).0 in omega arith
      go (count_full h t (r, later, p) i j) = let z = (b (record { key = v; total = t; state = r }) later p refl).1 in omega arith

  module _ (es fs rest more : List (Entry S)) (v w : Bytes) (c d : ℕ) (whole : Lists g f lo hi (es ++ rest)) (same : es ++ rest ≡ fs ++ more) (why : Why es rest v c) (other : Why fs more w d)
      (fitting : (e : Entry S) → e ∈ fs → (e.key ≺ w) × (e.total ≤ most)) (few : length fs ≤ most_keys) where
    not_before : v ≺ w → ⊥
    not_before t = no_reason es rest v c why
        (λ u m. (second.1.passed v u m.path tt t).0)
        (λ e later p q. handed e later p q (in_either e fs more (subst (λ (l : List (Entry S)). e ∈ l) same (in_right e es rest (subst (λ (l : List (Entry S)). e ∈ l) (sym p) (inl refl))))))
      where
        second : (u : ℕ) × Comes fs more w u
        second = comes fs more w d other

        handed : (e : Entry S) (later : List (Entry S)) → rest ≡ e ∷ later → v ≡ e.key → (e ∈ fs) ⊎ (e ∈ more) → (e.total ≤ most) × (length es < most_keys)
        handed e later p q (inl m) =
            let l = longer e es later fs more (ap (λ (z : List (Entry S)). es ++ z) (sym p) ∙ same) (subst (λ (z : List (Entry S)). Rises (es ++ z)) p whole.rises) m in
            ((fitting e m).1, omega arith)
        handed e later p q (inr m) = absurd (never w e (subst (λ (z : Bytes). z ≺ w) q t) (second.1.none_owed_before e m))

  same_stop : (es fs rest more : List (Entry S)) (v : Bytes) (c d : ℕ) → es ++ rest ≡ fs ++ more → ((e : Entry S) → e ∈ es → e.key ≺ v) → ((e : Entry S) → e ∈ fs → e.key ≺ v) →
      Why es rest v c → Why fs more v d → c ≡ d
  same_stop es fs rest more v c d same a b why other =
      let (p, q) = one_parting v es rest fs more same a b (comes es rest v c why).1.none_owed_before (comes fs more v d other).1.none_owed_before in
      (one_reason g f lo hi law (Follows at_start) rows bytes (length es) rest v v c d why
      (subst (λ (l : List (Entry S)). Why l rest v d) (sym p) (subst (λ (l : List (Entry S)). Why fs l v d) (sym q) other))).1

  one_refusal : (c d : ℕ) → CannotCount g f lo hi rows bytes c → CannotCount g f lo hi rows bytes d → c ≡ d
  one_refusal c d (not_opened a) (not_opened b) = one_open_reason g lo rows bytes c d a b
  one_refusal c d (not_opened a) (stopped fine fs more w l b n s) = absurd (fine c a)
  one_refusal c d (stopped fine es rest v l a n r) (not_opened b) = absurd (fine d b)
  one_refusal c d (stopped fine es rest v l a n r) (stopped fine₂ fs more w k b m s) = go (three_ways v w)
    where
      same : es ++ rest ≡ fs ++ more
      same = determined g f lo hi law (es ++ rest) (fs ++ more) l k

      go : (v ≺ w) ⊎ ((v ≡ w) ⊎ (w ≺ v)) → c ≡ d
      go (inl t) = absurd (not_before es fs rest more v w c d l same r s b m t)
      go (inr (inr t)) = absurd (not_before fs es more rest w v d c k (sym same) s r a n t)
      go (inr (inl p)) = same_stop es fs rest more w c d same
          (λ e i. subst (λ (z : Bytes). e.key ≺ z) p (a e i).0) (λ e i. (b e i).0) (subst (λ (z : Bytes). Why es rest z c) p r) s

  not_both : (n c : ℕ) → CountsList g f lo hi rows bytes n → CannotCount g f lo hi rows bytes c → ⊥
  not_both n c a (not_opened b) = a.opens c b
  not_both n c a (stopped fine es rest v l b k r) = no_reason es rest v c r
      (λ u m. a.fit v u m.path tt (λ w s en q t. (m.passed w s en tt t).1))
      (λ e later p q. (
        a.totals_fit e (subst (λ (z : List (Entry S)). e ∈ z) same (in_right e es rest (subst (λ (z : List (Entry S)). e ∈ z) (sym p) (inl refl)))),
        (let i = ap length same in let j = length-append es rest in let h = ap length p in let o = a.few in omega arith),
      ))
    where
      same : es ++ rest ≡ a.list
      same = determined g f lo hi law (es ++ rest) a.list l a.whole

  one_number : (n m : ℕ) → CountsList g f lo hi rows bytes n → CountsList g f lo hi rows bytes m → n ≡ m
  one_number n m a b = a.number ∙ ap length (determined g f lo hi law a.list b.list a.whole b.whole) ∙ sym b.number

pub count_determined : {S : Type 0} → CountDetermined S
count_determined g f lo hi law rows bytes = record {
  one_number = one_number g f lo hi law rows bytes;
  one_refusal = one_refusal g f lo hi law rows bytes;
  not_both = not_both g f lo hi law rows bytes;
}
