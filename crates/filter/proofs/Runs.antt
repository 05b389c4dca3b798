-- Runs over bytes, of single tables. Assumes nothing.
use Rattle.std.proofs.Common.{◌≡◌, ℕ, ◌≤◌, Bool, List, [], ◌∷◌, length, refl}
use Rattle.std.proofs.lemmas.Bool.{le-ltb}
use Rattle.std.proofs.lemmas.List.Folds.{fold_stays}
use Rattle.filter.specs.declared.PairState.{PairState}
use Rattle.filter.specs.Filter.{Filter, run}
use Rattle.filter.specs.Tables.{subsequence_table, subsequence_accept, pair_state}
use Rattle.filter.proofs.Pairs.{pair_table}

module _ {S R : Type 0} (join : Bool → Bool → Bool) (f : Filter S) (g : Filter R) where
  pub pair_run : (s : PairState S R) (w : List ℕ) → run (pair_table join f g) s w ≡ pair_state (run f s.left w) (run g s.right w)
  pair_run s [] = refl
  pair_run s (b ∷ w) = pair_run (pair_state (f.accept s.left b) (g.accept s.right b)) w

pub subsequence_run_stays : (t w : List ℕ) (p : ℕ) → length t ≤ p → run (subsequence_table t) p w ≡ p
subsequence_run_stays t w p h = fold_stays (subsequence_accept t) p (λ b. rw (le-ltb p (length t) h) refl) w
