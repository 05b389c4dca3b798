-- The test of a chosen name says what its words say. Assumes nothing.
use Rattle.std.proofs.Common.{◌≡◌, ℕ, Bool, true, false, cond, eqb, [], ◌∷◌, refl, subst}
use Rattle.std.proofs.lemmas.Bool.{and_from, and_parts, eqb-true, eqb-false}
use Rattle.byte_strings.specs.Order.{Bytes}
use Rattle.byte_strings.proofs.OrderLaws.{begins_law}
use Rattle.bound.proofs.Words.{within_said, within_test}
use Rattle.filter.specs.Meanings.{SubsequenceOf, ended, taken, skipped}
use Rattle.input.specs.Asked.{Asked}
use Rattle.account.specs.Chosen.{is_subsequence, is_chosen, Chosen}

none_of : (k : Bytes) → SubsequenceOf [] k
none_of [] = ended
none_of (y ∷ k) = skipped (none_of k)

subsequence_said : (s k : Bytes) → is_subsequence s k ≡ true → SubsequenceOf s k
unfolding is_subsequence
subsequence_said [] k h = none_of k
subsequence_said (x ∷ s) [] h = cc
subsequence_said (x ∷ s) (y ∷ k) h = go (eqb x y) refl h (subsequence_said s k) (subsequence_said (x ∷ s) k)
  where
    go : (u : Bool) → eqb x y ≡ u → cond u (is_subsequence s k) (is_subsequence (x ∷ s) k) ≡ true
        → (is_subsequence s k ≡ true → SubsequenceOf s k) → (is_subsequence (x ∷ s) k ≡ true → SubsequenceOf (x ∷ s) k) → SubsequenceOf (x ∷ s) (y ∷ k)
    go true e h same other = subst (λ z. SubsequenceOf (x ∷ s) (z ∷ k)) (eqb-true x y e) (taken (same h))
    go false e h same other = skipped (other h)

rest_of : {x : ℕ} {s k : Bytes} → SubsequenceOf (x ∷ s) k → SubsequenceOf s k
rest_of (taken p) = skipped p
rest_of (skipped p) = skipped (rest_of p)

after_same : {x y : ℕ} {s k : Bytes} → SubsequenceOf (x ∷ s) (y ∷ k) → SubsequenceOf s k
after_same (taken p) = p
after_same (skipped p) = rest_of p

after_other : {x y : ℕ} {s k : Bytes} → (x ≡ y → ⊥) → SubsequenceOf (x ∷ s) (y ∷ k) → SubsequenceOf (x ∷ s) k
after_other n (taken p) = absurd (n refl)
after_other n (skipped p) = p

not_of_none : {x : ℕ} {s k : Bytes} → SubsequenceOf (x ∷ s) k → k ≡ [] → ⊥
not_of_none (taken p) e = cc
not_of_none (skipped p) e = cc

subsequence_test : (s k : Bytes) → SubsequenceOf s k → is_subsequence s k ≡ true
unfolding is_subsequence
subsequence_test [] k p = refl
subsequence_test (x ∷ s) [] p = absurd (not_of_none p refl)
subsequence_test (x ∷ s) (y ∷ k) p = go (eqb x y) refl (subsequence_test s k) (subsequence_test (x ∷ s) k)
  where
    go : (u : Bool) → eqb x y ≡ u → (SubsequenceOf s k → is_subsequence s k ≡ true) → (SubsequenceOf (x ∷ s) k → is_subsequence (x ∷ s) k ≡ true)
        → cond u (is_subsequence s k) (is_subsequence (x ∷ s) k) ≡ true
    go true e same other = same (after_same p)
    go false e same other = other (after_other (eqb-false x y e) p)

pub chosen_said : (a : Asked) (k : Bytes) → is_chosen a k ≡ true → Chosen a k
chosen_said a k h =
    let q = and_parts _ _ h in
    let r = and_parts _ _ q.1 in
    record {
      within = within_said a.lower a.upper k q.0;
      prefixed = (begins_law.begins_is_front a.prefix k).0 r.0;
      holding = subsequence_said a.subsequence k r.1;
    }

pub chosen_test : (a : Asked) (k : Bytes) → Chosen a k → is_chosen a k ≡ true
chosen_test a k c =
    and_from _ _ (within_test a.lower a.upper k c.within)
    (and_from _ _ ((begins_law.begins_is_front a.prefix k).1 c.prefixed) (subsequence_test a.subsequence k c.holding))
