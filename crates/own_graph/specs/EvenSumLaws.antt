-- The filter of even sums is lawful, and means what it says. Assumes nothing.
use Rattle.std.proofs.Common.{◌≡◌, ℕ, ◌+◌, ◌%◌, Bool, true, false, cond, not, eqb, List, [], ◌∷◌, Decides, refl, arith}
use Rattle.std.proofs.lemmas.Bool.{eqb-true, eqb-false}
use Rattle.std.specs.List.{fold}
use Rattle.filter.specs.Filter.{Lawful, run}
use Rattle.filter.specs.Meanings.{Means}
use Rattle.filter.proofs.Verdicts.{matched_is_accepted}
use Rattle.own_graph.specs.EvenSum.{even_sum_table, HavingEvenSum}

pub even_sum_table_is_lawful : Lawful even_sum_table
even_sum_table_is_lawful = record {
  cannot_match = λ s w h. cc;
  cannot_match_at_end = λ s w e h k. cc;
  always_matches = λ s w h. cc;
}

-- the state s says whether a sum is even
abbrev Tells : Bool → ℕ → Type 0
Tells s a = Decides s (a % 2 ≡ 0)

one_byte : (s even : Bool) (a b : ℕ) → eqb (b % 2) 0 ≡ even → Tells s a → Tells (cond even s (not s)) (a + b)
one_byte true true a b e d = let k = eqb-true (b % 2) 0 e in let i = d.0 refl in ((λ h. omega arith), (λ h. refl))
one_byte false true a b e d = let k = eqb-true (b % 2) 0 e in ((λ h. cc), (λ h. d.1 (omega arith)))
one_byte true false a b e d = let k = eqb-false (b % 2) 0 e in let i = d.0 refl in ((λ h. cc), (λ h. absurd (omega arith)))
one_byte false false a b e d = let k = eqb-false (b % 2) 0 e in let i : a % 2 ≡ 0 → ⊥ = λ z. let q = d.1 z in cc in ((λ h. omega arith), (λ h. refl))

tells : (w : List ℕ) (s : Bool) (a : ℕ) → Tells s a → Tells (run even_sum_table s w) (fold ◌+◌ a w)
tells [] s a d = d
tells (b ∷ w) s a d = tells w (cond (eqb (b % 2) 0) s (not s)) (a + b) (one_byte s (eqb (b % 2) 0) a b refl d)

pub even_sum_table_means : Means even_sum_table HavingEvenSum HavingEvenSum
even_sum_table_means = matched_is_accepted even_sum_table HavingEvenSum (λ w. refl) (λ w. tells w true 0 ((λ h. refl), (λ h. refl)))
