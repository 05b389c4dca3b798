-- A list is accepted exactly where it is rising, and refused exactly as each refusal says. Assumes nothing.
use Rattle.std.proofs.Common.{◌≡◌, ℕ, zero, suc, ◌+◌, ◌-◌, ◌<◌, ◌≤◌, Bool, true, false, cond, eqb, leb, ◌⊎◌, ◌↔◌, List, length, is_ok, Some, None, Ok, Err, Option, Result, Ordering, Less, sym, refl, ap, ◌∙◌, subst, inl, inr, arith}
use Rattle.std.proofs.lemmas.Bool.{leb-true, le-leb, lt-leb, eqb-true, cond-true, cond-false, false≢true, cases_lt}
use Rattle.std.proofs.lemmas.Bool.Decides.{nat_tests}
use Rattle.std.specs.Ordering.{is_lt}
use Rattle.std.specs.Result.{result_err}
use Rattle.byte_strings.specs.Order.{Bytes, order, ◌≺◌}
use Rattle.names.specs.declared.name.Name.{Name}
use Rattle.names.specs.declared.refusal.Refusal.{Refusal}
use Rattle.names.specs.declared.refusal.Refusal.TheVariants.{CountOutOfRange, NameOutOfRange, NotRising}
use Rattle.names.specs.Names.{before, is_inside}
use Rattle.names.specs.Refusals.{is_in_range, is_above, refusal_of}
use Rattle.names.specs.Rising.{row, name, InRange, Good, Rising, Reached, Refused, count_out_of_range, name_out_of_range, not_rising}
use Rattle.names.proofs.First.{own, first, first_past, first_here, first_next, counted_first}

never : {P : Type 0} (e : Refusal) → None ≡ Some e → P
never e p = cc

module _ (text : Bytes) (rows : List Name) where
  range_since : (r : Name) → is_in_range text r ≡ true → InRange text r
  range_since r h = go (leb r.length 255) refl h
    where
      go : (u : Bool) → leb r.length 255 ≡ u → cond u (is_inside text r) false ≡ true → InRange text r
      go true e h = record { short = leb-true _ _ e; inside = leb-true _ _ h }
      go false e h = absurd (false≢true h)

  range_test : (r : Name) → InRange text r → is_in_range text r ≡ true
  range_test r h = cond-true _ _ _ (le-leb _ _ h.short) ∙ le-leb _ _ h.inside

  less_since : (o : Ordering) → is_lt o ≡ true → o ≡ Less
  less_since o h = grind (arith, nat_tests)

  -- what one name is answered
  data Outcome (i : ℕ) : Option Refusal → Type 0 where
    is_good : Good text rows i → Outcome i None
    is_out : (InRange text (row rows i) → ⊥) → Outcome i (Some (NameOutOfRange i))
    is_low : InRange text (row rows i) → 0 < i → (name text rows (i - 1) ≺ name text rows i → ⊥) → Outcome i (Some (NotRising i))

  above_outcome : (i : ℕ) → InRange text (row rows i) → Outcome i (cond (is_above (before text rows i) (name text rows i)) None (Some (NotRising i)))
  above_outcome i h = go (eqb i 0) refl
    where
      turn : (v : Bool) → is_lt (order (name text rows (i - 1)) (name text rows i)) ≡ v → 0 < i → Outcome i (cond v None (Some (NotRising i)))
      turn true e p = is_good (record { in_range = h; above = λ _. less_since _ e })
      turn false e p = is_low h p (λ l. false≢true (sym e ∙ ap is_lt l))

      go : (u : Bool) → eqb i 0 ≡ u → Outcome i (cond (is_above (cond u None (Some (name text rows (i - 1)))) (name text rows i)) None (Some (NotRising i)))
      go true e = is_good (record { in_range = h; above = λ p. absurd (let z = eqb-true i 0 e in omega arith) })
      go false e = turn (is_lt (order (name text rows (i - 1)) (name text rows i))) refl (grind (arith, nat_tests))

  outcome : (i : ℕ) → Outcome i (own text rows i)
  outcome i = go (is_in_range text (row rows i)) refl
    where
      go : (u : Bool) → is_in_range text (row rows i) ≡ u → Outcome i (cond u (cond (is_above (before text rows i) (name text rows i)) None (Some (NotRising i))) (Some (NameOutOfRange i)))
      go true e = above_outcome i (range_since (row rows i) e)
      go false e = is_out (λ h. false≢true (sym e ∙ range_test (row rows i) h))

  good_since : (i : ℕ) {o : Option Refusal} → Outcome i o → o ≡ None → Good text rows i
  good_since i (is_good g) e = g
  good_since i (is_out n) e = never _ (sym e)
  good_since i (is_low h p n) e = never _ (sym e)

  good_none : (i : ℕ) {o : Option Refusal} → Outcome i o → Good text rows i → o ≡ None
  good_none i (is_good g) h = refl
  good_none i (is_out n) h = absurd (n h.in_range)
  good_none i (is_low r p n) h = absurd (n (h.above p))

  -- either no name from i on has a refusal, or there is a first one
  data Scanned (i : ℕ) (o : Option Refusal) : Type 0 where
    no_refusal : o ≡ None → ((k : ℕ) → i ≤ k → k < length rows → own text rows k ≡ None) → Scanned i o
    refusal : (k : ℕ) (e : Refusal) → i ≤ k → k < length rows → own text rows k ≡ Some e → o ≡ Some e → ((j : ℕ) → i ≤ j → j < k → own text rows j ≡ None) → Scanned i o

  scan : (m i : ℕ) → length rows ≤ i + m → Scanned i (first text rows i)
  scan zero i h = no_refusal (first_past text rows i (omega arith)) (λ k a b. absurd (omega arith))
  scan (suc m) i h = elim (cases_lt i (length rows)) [
    | inl l ↦ go l (own text rows i) refl (scan m (i + 1) (omega arith))
    | inr l ↦ no_refusal (first_past text rows i l) (λ k a b. absurd (omega arith))
  ]
    where
      go : i < length rows → (o : Option Refusal) → own text rows i ≡ o → Scanned (i + 1) (first text rows (i + 1)) → Scanned i (first text rows i)
      go l (Some e) p rest = refusal i e (omega arith) l p (first_here text rows i e l (sym p)) (λ j a b. absurd (omega arith))
      go l None p (no_refusal q each) =
          no_refusal (first_next text rows i l (sym p) ∙ q)
          (λ k a b. elim (cases_lt i k) [ inl c ↦ each k (omega arith) b | inr c ↦ let s : k ≡ i = omega arith in ap (own text rows) s ∙ p ])
      go l None p (refusal k e a b q r each) =
          refusal k e (omega arith) b q (first_next text rows i l (sym p) ∙ r)
          (λ j c d. elim (cases_lt i j) [ inl f ↦ each j (omega arith) d | inr f ↦ let s : j ≡ i = omega arith in ap (own text rows) s ∙ p ])

  own_good : (i : ℕ) → own text rows i ≡ None → Good text rows i
  own_good i e = good_since i (outcome i) e

  good_own : (i : ℕ) → Good text rows i → own text rows i ≡ None
  good_own i g = good_none i (outcome i) g

  -- a refused name, with what its refusal says
  refused_since : (i : ℕ) {o : Option Refusal} (e : Refusal) → Reached text rows i → Outcome i o → o ≡ Some e → Refused text rows e
  refused_since i e r (is_good g) p = never e p
  refused_since i e r (is_out n) p = subst (Refused text rows) (let q : NameOutOfRange i ≡ e = cc in q) (name_out_of_range i r n)
  refused_since i e r (is_low h l n) p = subst (Refused text rows) (let q : NotRising i ≡ e = cc in q) (not_rising i r h l n)

  out_own : (i : ℕ) {o : Option Refusal} → Outcome i o → (InRange text (row rows i) → ⊥) → o ≡ Some (NameOutOfRange i)
  out_own i (is_good g) n = absurd (n g.in_range)
  out_own i (is_out m) n = refl
  out_own i (is_low h l m) n = absurd (n h)

  low_own : (i : ℕ) {o : Option Refusal} → Outcome i o → InRange text (row rows i) → 0 < i → (name text rows (i - 1) ≺ name text rows i → ⊥) → o ≡ Some (NotRising i)
  low_own i (is_good g) h l n = absurd (n (g.above l))
  low_own i (is_out m) h l n = absurd (m h)
  low_own i (is_low k p m) h l n = refl

  -- the first name with a refusal of its own decides
  decided : (i : ℕ) (e : Refusal) → Reached text rows i → own text rows i ≡ Some e → refusal_of text rows ≡ Some e
  decided i e r p =
      counted_first text rows (let h = r.there in omega arith) r.few ∙ go i (λ j l. good_own j (r.good_before j l)) (let h = r.there in omega arith)
      ∙ first_here text rows i e r.there (sym p)
    where
      go : (k : ℕ) → ((j : ℕ) → j < k → own text rows j ≡ None) → k ≤ length rows → first text rows 0 ≡ first text rows k
      go zero each h = refl
      go (suc k) each h =
          let s : k + 1 ≡ suc k = omega arith in
          go k (λ j l. each j (omega arith)) (omega arith) ∙ first_next text rows k (omega arith) (sym (each k (omega arith))) ∙ ap (first text rows) s

  counted_not : (length rows ≡ 0) ⊎ (65536 < length rows) → refusal_of text rows ≡ Some CountOutOfRange
  counted_not (inl h) = cond-false _ _ _ (cond-false _ _ _ (lt-leb 1 (length rows) (omega arith)))
  counted_not (inr h) = cond-false _ _ _ (cond-true _ _ _ (le-leb 1 (length rows) (omega arith)) ∙ lt-leb (length rows) 65536 h)

  pub refused_answer : (e : Refusal) → Refused text rows e → refusal_of text rows ≡ Some e
  refused_answer CountOutOfRange (count_out_of_range h) = counted_not h
  refused_answer (NameOutOfRange n) (name_out_of_range i r m) = decided i _ r (out_own i (outcome i) m)
  refused_answer (NotRising n) (not_rising i r h l m) = decided i _ r (low_own i (outcome i) h l m)

  counted : ((1 ≤ length rows) × (length rows ≤ 65536)) ⊎ ((length rows ≡ 0) ⊎ (65536 < length rows))
  counted = elim (cases_lt 0 (length rows)) [
    | inl a ↦ elim (cases_lt 65536 (length rows)) [ inl b ↦ inr (inr b) | inr b ↦ inl (omega arith, b) ]
    | inr a ↦ inr (inl (omega arith))
  ]

  pub accepted_rising : refusal_of text rows ≡ None → Rising text rows
  accepted_rising h = elim counted [ inl c ↦ go c (scan (length rows) 0 (omega arith)) | inr c ↦ never CountOutOfRange (sym h ∙ counted_not c) ]
    where
      go : (1 ≤ length rows) × (length rows ≤ 65536) → Scanned 0 (first text rows 0) → Rising text rows
      go c (no_refusal q each) = record { some = let a = c.0 in omega arith; few = c.1; good = λ i l. own_good i (each i (omega arith) l) }
      go c (refusal k e a b q r each) = never e (sym h ∙ counted_first text rows c.0 c.1 ∙ r)

  pub answer_refused : (e : Refusal) → refusal_of text rows ≡ Some e → Refused text rows e
  answer_refused e h = elim counted [ inl c ↦ go c (scan (length rows) 0 (omega arith)) | inr c ↦ subst (Refused text rows) (same c) (count_out_of_range c) ]
    where
      same : (length rows ≡ 0) ⊎ (65536 < length rows) → CountOutOfRange ≡ e
      same c = let p = sym (counted_not c) ∙ h in cc

      go : (1 ≤ length rows) × (length rows ≤ 65536) → Scanned 0 (first text rows 0) → Refused text rows e
      go c (no_refusal q each) = never e (sym q ∙ sym (counted_first text rows c.0 c.1) ∙ h)
      go c (refusal k x a b q r each) =
          let s = sym r ∙ sym (counted_first text rows c.0 c.1) ∙ h in
          refused_since k e (record { few = c.1; there = b; good_before = λ j l. own_good j (each j (omega arith) l) }) (outcome k) (q ∙ s)

  pub rising_accepted : Rising text rows → refusal_of text rows ≡ None
  rising_accepted g = go (scan (length rows) 0 (omega arith))
    where
      go : Scanned 0 (first text rows 0) → refusal_of text rows ≡ None
      go (no_refusal q each) = counted_first text rows (let a = g.some in omega arith) g.few ∙ q
      go (refusal k e a b q r each) = never e (sym (good_own k (g.good k b)) ∙ q)

-- an answer that fails exactly with the refusal succeeds exactly where the list is rising, and fails exactly as each refusal says
module _ {T : Type 0} (text : Bytes) (rows : List Name) where
  pub accepted_in_words : (r : Result T Refusal) → result_err r ≡ refusal_of text rows → (is_ok r ≡ true) ↔ Rising text rows
  accepted_in_words (Ok x) e = (λ _. accepted_rising text rows (sym e), λ _. refl)
  accepted_in_words (Err x) e = (λ h. absurd (false≢true h), λ s. never x (sym (e ∙ rising_accepted text rows s)))

  pub refused_in_words : (r : Result T Refusal) → result_err r ≡ refusal_of text rows → (e : Refusal) → (result_err r ≡ Some e) ↔ Refused text rows e
  refused_in_words r p e = (λ h. answer_refused text rows e (sym p ∙ h), λ h. p ∙ refused_answer text rows e h)
