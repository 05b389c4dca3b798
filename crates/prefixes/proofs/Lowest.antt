-- The lowest name that begins with a prefix. Assumes nothing.
use Rattle.std.proofs.Common.{◌≡◌, ℕ, zero, suc, ◌<◌, ◌≤◌, Bool, true, false, cond, List, [], ◌∷◌, length, refl, ap, ◌∙◌, inl, inr, arith}
use Rattle.std.proofs.lemmas.Bool.{cases_order, ltb-true, lt-ltb}
use Rattle.byte_strings.specs.Order.{Bytes, begins}
use Rattle.prefixes.specs.Prefixes.{name_at, lowest, is_prefix}

module _ (w : Bytes) where
  at_head : (a : Bytes) (more : List Bytes) → begins w a ≡ true → lowest w (a ∷ more) ≡ 0
  unfolding lowest
  at_head a more e = ap (λ v. cond v 0 (suc (lowest w more))) e

  at_tail : (a : Bytes) (more : List Bytes) → begins w a ≡ false → lowest w (a ∷ more) ≡ suc (lowest w more)
  unfolding lowest
  at_tail a more e = ap (λ v. cond v 0 (suc (lowest w more))) e

  pub lowest_begins : (ns : List Bytes) → lowest w ns < length ns → begins w (name_at ns (lowest w ns)) ≡ true
  lowest_begins [] h = absurd (omega arith)
  lowest_begins (a ∷ more) h = go (begins w a) refl (lowest_begins more)
    where
      go : (v : Bool) → begins w a ≡ v → (lowest w more < length more → begins w (name_at more (lowest w more)) ≡ true) → begins w (name_at (a ∷ more) (lowest w (a ∷ more))) ≡ true
      go true e ih = ap (λ k. begins w (name_at (a ∷ more) k)) (at_head a more e) ∙ e
      go false e ih =
          let t : lowest w (a ∷ more) ≡ suc (lowest w more) = at_tail a more e in
          ap (λ k. begins w (name_at (a ∷ more) k)) t ∙ ih (omega arith)

  pub lowest_found : (ns : List Bytes) (i : ℕ) → i < length ns → begins w (name_at ns i) ≡ true → lowest w ns ≤ i
  lowest_found [] i h p = absurd (omega arith)
  lowest_found (a ∷ more) zero h p = let e = at_head a more p in omega arith
  lowest_found (a ∷ more) (suc i) h p = go (begins w a) refl (lowest_found more i (omega arith) p)
    where
      go : (v : Bool) → begins w a ≡ v → lowest w more ≤ i → lowest w (a ∷ more) ≤ suc i
      go true e ih = let t = at_head a more e in omega arith
      go false e ih = let t = at_tail a more e in omega arith

  -- no lower name
  pub lowest_is : (ns : List Bytes) (i : ℕ) → i < length ns → begins w (name_at ns i) ≡ true → ((j : ℕ) → j < i → begins w (name_at ns j) ≡ true → ⊥) → lowest w ns ≡ i
  lowest_is ns i h p low =
      let a : lowest w ns ≤ i = lowest_found ns i h p in
      elim (cases_order (lowest w ns) i) [
        | inl e ↦ e
        | inr (inl l) ↦ absurd (low (lowest w ns) l (lowest_begins ns (omega arith)))
        | inr (inr l) ↦ absurd (omega arith)
      ]

  pub prefix_since : (ns : List Bytes) (i : ℕ) → i < length ns → begins w (name_at ns i) ≡ true → is_prefix w ns ≡ true
  prefix_since ns i h p = let a : lowest w ns ≤ i = lowest_found ns i h p in lt-ltb (lowest w ns) (length ns) (omega arith)

  pub no_prefix_since : (ns : List Bytes) → ((i : ℕ) → i < length ns → begins w (name_at ns i) ≡ true → ⊥) → is_prefix w ns ≡ false
  no_prefix_since ns no_one = go (is_prefix w ns) refl
    where
      go : (v : Bool) → is_prefix w ns ≡ v → is_prefix w ns ≡ false
      go true e = let l : lowest w ns < length ns = ltb-true _ _ e in absurd (no_one (lowest w ns) l (lowest_begins ns l))
      go false e = e
