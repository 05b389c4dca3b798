-- Str matches exactly the key equal to its bytes. Assumes nothing.
use Rattle.std.proofs.Common.{◌≡◌, ℕ, ◌+◌, ◌<◌, ◌≤◌, Bool, true, false, cond, eqb, ltb, List, [], ◌∷◌, length, get_or, drop, Some, None, sym, refl, ap, ◌∙◌, subst, arith, length-drop}
use Rattle.std.proofs.lemmas.List.{drop_all, drop_more}
use Rattle.std.proofs.lemmas.Bool.{lt-ltb, eq-eqb, ltb-true, eqb-true, false≢true}
use Rattle.std.proofs.lemmas.List.Folds.{fold_stays}
use Rattle.filter.specs.Filter.{run}
use Rattle.filter.specs.Tables.{str_table, str_is_match, str_accept}
use Rattle.filter.specs.Meanings.{Means, EqualTo}
use Rattle.filter.proofs.Verdicts.{matched_is_accepted}

module _ (t : List ℕ) where
  no_match_from_none : {P : Type 0} (w : List ℕ) → str_is_match t (run (str_table t) None w) ≡ true → P
  no_match_from_none w h = absurd (false≢true (sym (ap (str_is_match t) (fold_stays (str_accept t) None (λ b. refl) w)) ∙ h))

  -- one byte b at position p, by the answers of the two tests of `accept`
  equal_one_byte : (p b : ℕ) (w : List ℕ) (a q : Bool) → ltb p (length t) ≡ a → eqb (get_or t p 0) b ≡ q
      → (p + 1 ≤ length t → str_is_match t (run (str_table t) (Some (p + 1)) w) ≡ true → w ≡ drop (p + 1) t)
      → str_is_match t (run (str_table t) (cond a (cond q (Some (p + 1)) None) None) w) ≡ true → b ∷ w ≡ drop p t
  equal_one_byte p b w true true e d rest h =
      let lt = ltb-true p (length t) e in
      let same = eqb-true (get_or t p 0) b d in
      let tail = rest (omega arith) h in
      let front = drop_more t p 0 lt in
      cc
  equal_one_byte p b w true false e d rest h = no_match_from_none w h
  equal_one_byte p b w false q e d rest h = no_match_from_none w h

  matched_is_equal : (w : List ℕ) (p : ℕ) → p ≤ length t → str_is_match t (run (str_table t) (Some p) w) ≡ true → w ≡ drop p t
  matched_is_equal [] p h m = let e = eqb-true p (length t) m in sym (drop_all p t (omega arith))
  matched_is_equal (b ∷ w) p h m = equal_one_byte p b w (ltb p (length t)) (eqb (get_or t p 0) b) refl refl (matched_is_equal w (p + 1)) m

  equal_is_matched : (w : List ℕ) (p : ℕ) → p ≤ length t → w ≡ drop p t → str_is_match t (run (str_table t) (Some p) w) ≡ true
  equal_is_matched [] p h e = let n = ap length e ∙ length-drop p t in eq-eqb p (length t) (omega arith)
  equal_is_matched (b ∷ w) p h e =
      let n = ap length e ∙ length-drop p t in
      let lt : p < length t = omega arith in
      let front = drop_more t p 0 lt in
      let head : get_or t p 0 ≡ b = cc in
      let tail : w ≡ drop (p + 1) t = cc in
      rw (lt-ltb p (length t) lt, eq-eqb (get_or t p 0) b head) (equal_is_matched w (p + 1) (omega arith) tail)

  pub str_table_means : Means (str_table t) (EqualTo t) (EqualTo t)
  str_table_means =
      matched_is_accepted (str_table t) (EqualTo t) (λ w. refl) (λ w. (matched_is_equal w 0 (omega arith), equal_is_matched w 0 (omega arith)))

-- of equal bytes
pub str_table_means_since : (t s : List ℕ) → s ≡ t → Means (str_table s) (EqualTo t) (EqualTo t)
str_table_means_since t s e = subst (λ u. Means (str_table u) (EqualTo t) (EqualTo t)) (sym e) (str_table_means t)
