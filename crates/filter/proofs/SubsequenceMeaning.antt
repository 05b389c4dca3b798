-- Subsequence matches exactly the keys that its bytes are a subsequence of. Assumes nothing.
use Rattle.std.proofs.Common.{◌≡◌, ℕ, ◌+◌, ◌≤◌, Bool, true, false, cond, eqb, ltb, List, [], ◌∷◌, length, get_or, drop, sym, refl, ap, ◌∙◌, arith, length-drop}
use Rattle.std.proofs.lemmas.List.{drop_all, drop_more}
use Rattle.std.proofs.lemmas.Bool.{eq-eqb, ltb-true, ltb-false, eqb-true, eqb-false}
use Rattle.filter.specs.Filter.{run}
use Rattle.filter.specs.Tables.{subsequence_table}
use Rattle.filter.specs.Meanings.{Means, SubsequenceOf, ended, taken, skipped}
use Rattle.filter.proofs.Verdicts.{matched_is_accepted}

empty_in_all : (w : List ℕ) → SubsequenceOf [] w
empty_in_all [] = ended
empty_in_all (b ∷ w) = skipped (empty_in_all w)

-- without its first byte
without_first : {b : ℕ} {t w : List ℕ} → SubsequenceOf (b ∷ t) w → SubsequenceOf t w
without_first (taken s) = skipped s
without_first (skipped s) = skipped (without_first s)

without_both_firsts : {b c : ℕ} {t w : List ℕ} → SubsequenceOf (b ∷ t) (c ∷ w) → SubsequenceOf t w
without_both_firsts (taken s) = s
without_both_firsts (skipped s) = without_first s

first_differs : {b c : ℕ} {t w : List ℕ} → (b ≡ c → ⊥) → SubsequenceOf (b ∷ t) (c ∷ w) → SubsequenceOf (b ∷ t) w
first_differs n (taken s) = absurd (n refl)
first_differs n (skipped s) = s

only_empty_in_empty : {t : List ℕ} → SubsequenceOf t [] → t ≡ []
only_empty_in_empty ended = refl

module _ (t : List ℕ) where
  abbrev Matched : ℕ → List ℕ → Type 0
  Matched p w = eqb (run (subsequence_table t) p w) (length t) ≡ true

  -- one byte b at position p, by the answers of the two tests of `accept`
  found_one_byte : (p b : ℕ) (w : List ℕ) (a q : Bool) → ltb p (length t) ≡ a → eqb (get_or t p 0) b ≡ q
      → ((r : ℕ) → r ≤ length t → Matched r w → SubsequenceOf (drop r t) w)
      → p ≤ length t → Matched (cond a (cond q (p + 1) p) p) w → SubsequenceOf (drop p t) (b ∷ w)
  found_one_byte p b w true true e d rest k h =
      let lt = ltb-true p (length t) e in
      let same = eqb-true (get_or t p 0) b d in
      let front : drop p t ≡ b ∷ drop (p + 1) t = drop_more t p 0 lt ∙ ap (λ x. x ∷ drop (p + 1) t) same in
      rw front (taken (rest (p + 1) (omega arith) h))
  found_one_byte p b w true false e d rest k h = skipped (rest p k h)
  found_one_byte p b w false q e d rest k h = skipped (rest p k h)

  matched_is_subsequence : (w : List ℕ) (p : ℕ) → p ≤ length t → Matched p w → SubsequenceOf (drop p t) w
  matched_is_subsequence [] p h m = let e = eqb-true p (length t) m in rw (drop_all p t (omega arith)) ended
  matched_is_subsequence (b ∷ w) p h m = found_one_byte p b w (ltb p (length t)) (eqb (get_or t p 0) b) refl refl (matched_is_subsequence w) h m

  matched_one_byte : (p b : ℕ) (w : List ℕ) (a q : Bool) → ltb p (length t) ≡ a → eqb (get_or t p 0) b ≡ q
      → ((r : ℕ) → r ≤ length t → SubsequenceOf (drop r t) w → Matched r w)
      → p ≤ length t → SubsequenceOf (drop p t) (b ∷ w) → Matched (cond a (cond q (p + 1) p) p) w
  matched_one_byte p b w true true e d rest k s =
      let lt = ltb-true p (length t) e in
      rest (p + 1) (omega arith) (without_both_firsts (rw (drop_more t p 0 lt) at s))
  matched_one_byte p b w true false e d rest k s =
      let lt = ltb-true p (length t) e in
      let front = drop_more t p 0 lt in
      rest p k (rw front (first_differs (eqb-false (get_or t p 0) b d) (rw front at s)))
  matched_one_byte p b w false q e d rest k s =
      let over = ltb-false p (length t) e in
      rest p k (rw (drop_all p t over) (empty_in_all w))

  subsequence_is_matched : (w : List ℕ) (p : ℕ) → p ≤ length t → SubsequenceOf (drop p t) w → Matched p w
  subsequence_is_matched [] p h s = let n = sym (length-drop p t) ∙ ap length (only_empty_in_empty s) in eq-eqb p (length t) (omega arith)
  subsequence_is_matched (b ∷ w) p h s = matched_one_byte p b w (ltb p (length t)) (eqb (get_or t p 0) b) refl refl (subsequence_is_matched w) h s

  pub subsequence_table_means : Means (subsequence_table t) (SubsequenceOf t) (SubsequenceOf t)
  subsequence_table_means =
      matched_is_accepted (subsequence_table t) (SubsequenceOf t) (λ w. refl) (λ w.
      (matched_is_subsequence w 0 (omega arith), subsequence_is_matched w 0 (omega arith)))
