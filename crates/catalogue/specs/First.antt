-- The first refusal among several, and where bodies begin. Assumes nothing.
use Rattle.std.specs.Prelude.{◌≡◌, ℕ, zero, suc, ◌+◌, ◌-◌, ◌*◌, ◌<◌, ◌⊎◌, Some, None, Option}
use Rattle.std.proofs.Math.Path.{refl}
use Rattle.std.proofs.Common.{◌∙◌, ap, subst, inl, inr, ⊎_elim, zero-add, suc-add, add-one, arith}
use Rattle.std.proofs.lemmas.Bool.{cases_lt}
use Rattle.catalogue.specs.declared.refusal.Refusal.{Refusal}
use Rattle.catalogue.specs.Format.{File, body_start}
use Rattle.catalogue.specs.Refusals.{first, or_else}

pub or_else_none : (x y : Option Refusal) → or_else x y ≡ None → (x ≡ None) × (y ≡ None)
or_else_none None y h = (refl, h)
or_else_none (Some e) y h = cc

pub or_else_some : (x y : Option Refusal) (e : Refusal) → or_else x y ≡ Some e → (x ≡ Some e) ⊎ ((x ≡ None) × (y ≡ Some e))
or_else_some None y e h = inr (refl, h)
or_else_some (Some d) y e h = inl h

-- walked up, as a loop does
pub first_none : (f : ℕ → Option Refusal) → first f 0 ≡ None
unfolding first
first_none f = refl

pub first_more : (f : ℕ → Option Refusal) (i : ℕ) → first f i ≡ None → f i ≡ None → first f (i + 1) ≡ None
unfolding first
first_more f i h k = rw add-one (ap (λ x. or_else x (f i)) h ∙ k)

stays : (f : ℕ → Option Refusal) (e : Refusal) (i d : ℕ) → first f i ≡ Some e → first f (d + i) ≡ Some e
unfolding first
stays f e i zero h = rw zero-add h
stays f e i (suc d) h = rw suc-add (ap (λ x. or_else x (f (d + i))) (stays f e i d h))

pub first_found : (f : ℕ → Option Refusal) (e : Refusal) (i n : ℕ) → i < n → first f i ≡ None → f i ≡ Some e → first f n ≡ Some e
unfolding first
first_found f e i n l h k =
    let one : first f (suc i) ≡ Some e = ap (λ x. or_else x (f i)) h ∙ k in
    let d : (n - suc i) + suc i ≡ n = omega arith in
    rw d at (stays f e (suc i) (n - suc i) one)

-- none is refused where the first refusal is none, and the other way round
pub first_none_each : (f : ℕ → Option Refusal) (n : ℕ) → first f n ≡ None → (i : ℕ) → i < n → f i ≡ None
unfolding first
first_none_each f zero h i l = absurd (omega arith)
first_none_each f (suc n) h i l =
    let p = or_else_none (first f n) (f n) h in
    ⊎_elim (λ k. first_none_each f n p.0 i k) (λ k. let e : n ≡ i = omega arith in subst (λ m. f m ≡ None) e p.1) (cases_lt i n)

pub each_first_none : (f : ℕ → Option Refusal) (n : ℕ) → ((i : ℕ) → i < n → f i ≡ None) → first f n ≡ None
unfolding first
each_first_none f zero h = refl
each_first_none f (suc n) h = ap (λ x. or_else x (f n)) (each_first_none f n (λ i l. h i (omega arith))) ∙ h n (omega arith)

-- where the first refusal was found
pub first_some_where : (f : ℕ → Option Refusal) (e : Refusal) (n : ℕ) → first f n ≡ Some e
    → (i : ℕ) × (i < n) × ((j : ℕ) → j < i → f j ≡ None) × (f i ≡ Some e)
unfolding first
first_some_where f e zero h = cc
first_some_where f e (suc n) h =
    ⊎_elim (λ k. let w = first_some_where f e n k in (w.0, omega (arith, w.1), w.2, w.3))
    (λ k. (n, omega arith, first_none_each f n k.0, k.1))
    (or_else_some (first f n) (f n) e h)

module _ (file : File) where
  pub body_start_none : body_start file 0 ≡ file.contents_end
  unfolding body_start
  body_start_none = refl

  pub body_start_more : (n : ℕ) → body_start file (n + 1) ≡ body_start file n + 13 * file.len n
  unfolding body_start
  body_start_more n = rw (add-one n) refl
