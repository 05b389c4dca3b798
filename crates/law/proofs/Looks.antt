-- `next` ends: the looks that a row can cost fall at each look, from every search and areas. Assumes nothing.
use Rattle.std.proofs.Common.{◌≡◌, ℕ, zero, suc, ◌+◌, ◌-◌, ◌<◌, ◌≤◌, ◌≢◌, List, length, get_or, set, sym, refl, ◌∙◌, subst, arith, length-set, get_or-set_other, get_or-set_same}
use native.Mathlib.Decide.{dec_lt}
use Rattle.filter.specs.Filter.{Filter}
use Rattle.graph.specs.Table.{Lawful, Table}
use Rattle.law.specs.Theorems.{AlwaysBounded}
use Rattle.law.specs.Values.{Answer, Result, View, onward, target_at}
use Rattle.law.specs.Next.{Done, More, Move, Walks, after, all_looks, deeper, goes, looking, looks, looks_along, root_row, top_look, stops, walk}
use Rattle.law.specs.declared.Row.{Row}
use Rattle.law.proofs.Outcomes.{Outcome, ended, removed, refused, beyond, given, passed, outcome, never, more_same}
use Rattle.law.proofs.Positions.{sinking}

module _ {S : Type 0} (g : Table) (f : Filter S) (law : Lawful g) where
  along_same : (a b : ℕ → ℕ) (k p : ℕ) → ((q : ℕ) → q < p + k → a q ≡ b q) → looks_along a k p ≡ looks_along b k p
  along_same a b zero p h = refl
  along_same a b (suc k) p h =
      let e = h p (omega arith) in
      let r = along_same a b k (suc p) (λ q l. h q (omega arith)) in
      omega arith

  -- more depth than the height changes nothing
  deep_enough : (h i n p : ℕ) → g.height n < h → g.height n < i → looks g h n p ≡ looks g i n p
  deep_enough zero i n p a b = absurd (omega arith)
  deep_enough (suc h) zero n p a b = absurd (omega arith)
  deep_enough (suc h) (suc i) n p a b = go (dec_lt p (g.len n)) (λ q l. let s = sinking g law n q l in deep_enough h i (target_at g n q) 0 (omega arith) (omega arith))
    where
      go : Dec (p < g.len n) → ((q : ℕ) → q < g.len n → looks g h (target_at g n q) 0 ≡ looks g i (target_at g n q) 0) → looks g (suc h) n p ≡ looks g (suc i) n p
      go (yes l) below = along_same (λ q. looks g h (target_at g n q) 0) (λ q. looks g i (target_at g n q) 0) (g.len n - p) p (λ q m. below q (omega arith))
      go (no l) below = let z : g.len n - p ≡ 0 = omega arith in rw z

  abbrev cost : ℕ → ℕ → ℕ
  cost n p = looks g (suc (g.height n)) n p

  along_one : (a : ℕ → ℕ) (k p : ℕ) → 1 ≤ looks_along a k p
  along_one a zero p = omega arith
  along_one a (suc k) p = omega arith

  cost_one : (n p : ℕ) → 1 ≤ cost n p
  cost_one n p = along_one (λ q. looks g (g.height n) (target_at g n q) 0) (g.len n - p) p

  cost_more : (n p : ℕ) → p < g.len n → cost n p ≡ suc (cost (target_at g n p) 0) + cost n (suc p)
  cost_more n p l =
      let z : g.len n - p ≡ suc (g.len n - suc p) = omega arith in
      let e = deep_enough (g.height n) (suc (g.height (target_at g n p))) (target_at g n p) 0 (sinking g law n p l) (omega arith) in
      rw (z, ← e)

  all_looks_set : (d i : ℕ) (rows : List (Row S)) (r : Row S) → d ≤ i → all_looks g f d (set rows i r) ≡ all_looks g f d rows
  all_looks_set zero i rows r h = refl
  all_looks_set (suc d) i rows r h =
      let e = all_looks_set d i rows r (omega arith) in
      let n : d ≢ i = omega arith in
      rw (get_or-set_other rows i d r (root_row g f) n, e)

  pub falls : (x y : View S) → Outcome g f x (top_look g f x) → top_look g f x ≡ More y → all_looks g f y.search.depth y.rows < all_looks g f x.search.depth x.rows
  falls x y (ended e m) h = absurd (never (sym m ∙ h))
  falls x y (removed d e s m) h =
      let r = get_or x.rows d (root_row g f) in
      let p = cost_one r.node r.position in
      rw (← (more_same (sym m ∙ h)), e) (omega arith)
  falls x y (refused c d e w m) h = absurd (never (sym m ∙ h))
  falls x y (beyond d e w u m) h = absurd (never (sym m ∙ h))
  falls x y (given d e w u c i j m) h = absurd (never (sym m ∙ h))
  falls x y (passed d e w u c m) h =
      let r = get_or x.rows d (root_row g f) in
      let rows₁ = set x.rows d (onward r) in
      let p = cost_more r.node r.position w.present in
      let n : d ≢ suc d = omega arith in
      let free₁ : suc d < length rows₁ = rw length-set w.row_free in
      let free₂ : d < length x.rows = let q = w.row_free in omega arith in
      rw (← (more_same (sym m ∙ h)), e)
      (rw (
        get_or-set_same rows₁ (suc d) (deeper g f r) (root_row g f) free₁,
        get_or-set_other rows₁ (suc d) d (deeper g f r) (root_row g f) n,
        get_or-set_same x.rows d (onward r) (root_row g f) free₂,
        all_looks_set d (suc d) rows₁ (deeper g f r) (omega arith),
        all_looks_set d d x.rows (onward r) (omega arith),
      ) (omega arith))

  -- so many looks are the most that it takes
  enough : (n : ℕ) (x : View S) → all_looks g f x.search.depth x.rows < n → (m : ℕ) × (m ≤ suc (all_looks g f x.search.depth x.rows)) × Walks g f m x (looking g f n x)
  unfolding looking
  enough zero x h = absurd (omega arith)
  enough (suc n) x h = go (top_look g f x) refl (λ y e. enough n y (let l = falls x y (outcome g f x) e in omega arith))
    where
      go : (m : Move S) → top_look g f x ≡ m →
          ((y : View S) → top_look g f x ≡ More y → (i : ℕ) × (i ≤ suc (all_looks g f y.search.depth y.rows)) × Walks g f i y (looking g f n y)) →
          (i : ℕ) × (i ≤ suc (all_looks g f x.search.depth x.rows)) × Walks g f i x (after (looking g f n) m)
      go (Done a y) e ih = (1, omega arith, stops e)
      go (More y) e ih = let (i, l, w) = ih y e in let z = falls x y (outcome g f x) e in (suc i, omega arith, goes e w)

pub always_bounded : {S : Type 0} → AlwaysBounded S
always_bounded g f law x = enough g f law (suc (all_looks g f x.search.depth x.rows)) x (omega arith)

done_same : {S : Type 0} (a b : Answer S) (x y : View S) → Done a x ≡ Done b y → ◌≡◌ {A = Result S} (record { answer = a; left = x }) (record { answer = b; left = y })
done_same a b x y e = let p : a ≡ b = cc in let q : x ≡ y = cc in λ i. record { answer = p i; left = q i }

-- there is one result
one_result : {S : Type 0} (g : Table) (f : Filter S) (x : View S) (m n : ℕ) (r s : Result S) → Walks g f m x r → Walks g f n x s → r ≡ s
one_result g f x m n r s (stops {a = a} {y = y} e) (stops {a = b} {y = z} d) = done_same a b y z (sym e ∙ d)
one_result g f x m n r s (stops e) (goes d w) = absurd (never (sym e ∙ d))
one_result g f x m n r s (goes e w) (stops d) = absurd (never (sym d ∙ e))
one_result g f x m n r s (goes {n = i} {y = y} e w) (goes {n = j} {y = z} d v) = one_result g f y i j r s w (subst (λ (u : View _). Walks g f j u s) (more_same (sym d ∙ e)) v)

-- a look leaves the result of the walk alone, and lowers the number of looks that are left
abbrev pub Unfolds : Type 0 → Type 0
Unfolds S = (g : Table) (f : Filter S) → Lawful g → (x : View S) →
    ((y : View S) → top_look g f x ≡ More y → (walk g f x ≡ walk g f y) × (all_looks g f y.search.depth y.rows < all_looks g f x.search.depth x.rows)) ×
    ((a : Answer S) (y : View S) → top_look g f x ≡ Done a y → walk g f x ≡ record { answer = a; left = y })

pub unfolds : {S : Type 0} → Unfolds S
unfolds {S} g f law x = (
  λ y e.
      let (m, l, w) = always_bounded g f law x in
      let (n, k, v) = always_bounded g f law y in
      (one_result g f x m (suc n) (walk g f x) (walk g f y) w (goes e v), falls g f law x y (outcome g f x) e),
  λ a y e. let (m, l, w) = always_bounded g f law x in one_result g f x m 1 (walk g f x) (record { answer = a; left = y }) w (stops e),
)
