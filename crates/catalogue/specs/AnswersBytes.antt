-- The table of a well-formed file answers what its bytes say. Assumes nothing.
use Rattle.std.specs.Prelude.{◌≡◌, ℕ, ◌+◌, ◌*◌, ◌<◌, ◌≤◌, true, List, length, nat_lt, refl}
use Rattle.std.proofs.Common.{arith}
use Rattle.std.proofs.lemmas.Bool.Decides.{nat_tests}
use Rattle.catalogue.specs.Format.{file_of, little_endian}
use Rattle.catalogue.specs.WellFormed.{WellFormed}
use Rattle.catalogue.specs.Tables.{table_of, transition_at, AnswersBytes}
use Rattle.catalogue.specs.Lawful.{body_within}

module _ (bs : List ℕ) (w : WellFormed (file_of bs)) where
  within : (n : ℕ) → nat_lt n (little_endian bs 4 0) ≡ true → 4 + 16 * n + 16 ≤ length bs
  within n h =
      let c : 4 + 16 * little_endian bs 4 0 ≤ length bs = w.head.contents_whole in
      let l : n < little_endian bs 4 0 = grind (arith, nat_tests) in omega arith

  pub answers_bytes : AnswersBytes bs (table_of (file_of bs))
  answers_bytes = record {
    nodes = λ n. (λ h. grind (arith, nat_tests), λ h. grind (arith, nat_tests));
    root = let h : 0 < little_endian bs 4 0 = w.head.some_nodes in omega arith;
    first_total = refl;
    height = λ n. refl;
    entry_within = within;
    len = λ n h. grind (arith, nat_tests);
    is_final = λ n h. (λ k. grind (arith, nat_tests), λ k. grind (arith, nat_tests));
    final_output = λ n h. grind (arith, nat_tests);
    transition_within = λ n p h. body_within (file_of bs) w n p h;
    transition = λ n p h. (transition_at (file_of bs) n p, grind (arith, nat_tests), refl, refl, refl);
  }
