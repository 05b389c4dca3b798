-- A file without a refusal is well-formed, and the other way round. Assumes nothing.
use Rattle.std.specs.Prelude.{◌≡◌, ℕ, ◌-◌, ◌<◌, ◌≤◌, true, false, None, refl}
use Rattle.std.proofs.Common.{◌∙◌, ap, ⊎_elim, arith}
use Rattle.std.proofs.lemmas.Bool.Decides.{nat_tests}
use Rattle.std.proofs.lemmas.Bool.{cases_lt}
use Rattle.catalogue.specs.Format.{File, byte, target}
use Rattle.catalogue.specs.Refusals.{first, or_else, transition_refusal, entry_refusal, node_refusal, head_refusal, refusal_of, malformed}
use Rattle.catalogue.specs.WellFormed.{WellFormedHead, WellFormedFields, WellFormedEntry, ByteAbove, TargetBelow, WellFormedNode, WellFormed}
use Rattle.catalogue.specs.First.{or_else_none, first_none_each, each_first_none}

module _ (file : File) where
  pub head_formed : head_refusal file ≡ None → WellFormedHead file
  head_formed h = record {
    long_enough = grind (arith, nat_tests);
    some_nodes = grind (arith, nat_tests);
    few_nodes = grind (arith, nat_tests);
    contents_whole = grind (arith, nat_tests);
  }

  pub head_not_refused : WellFormedHead file → head_refusal file ≡ None
  head_not_refused h =
      let a = h.long_enough in let b = h.some_nodes in let c = h.few_nodes in let d = h.contents_whole in grind (arith, nat_tests)

  pub fields_formed : (n : ℕ) → malformed file n ≡ false → WellFormedFields file n
  fields_formed n h = record {
    few_transitions = grind (arith, nat_tests);
    flag_0_or_1 = grind (arith, nat_tests);
    padding_0 = grind (arith, nat_tests);
    not_final = λ e. grind (arith, nat_tests);
  }

  pub fields_not_malformed : (n : ℕ) → WellFormedFields file n → malformed file n ≡ false
  fields_not_malformed n f =
      let a = f.few_transitions in
      let b = f.flag_0_or_1 in
      let c = f.padding_0 in
      ⊎_elim (λ (e : file.flag n < 1). let d : file.final_output n ≡ 0 = f.not_final (omega arith) in grind (arith, nat_tests))
      (λ (e : 1 ≤ file.flag n). grind (arith, nat_tests))
      (cases_lt (file.flag n) 1)

  pub fields_malformed : (n : ℕ) → (WellFormedFields file n → ⊥) → malformed file n ≡ true
  fields_malformed n h =
      elim (malformed file n) as (λ b. malformed file n ≡ b → b ≡ true) [ true ↦ λ _. refl | false ↦ λ e. absurd (h (fields_formed n e)) ] refl

  pub entry_formed : (n : ℕ) → entry_refusal file n ≡ None → WellFormedEntry file n
  entry_formed n h = record {
    placed = grind (arith, nat_tests);
    fields = fields_formed n (grind (arith, nat_tests));
    within = grind (arith, nat_tests);
  }

  pub entry_not_refused : (n : ℕ) → WellFormedEntry file n → entry_refusal file n ≡ None
  entry_not_refused n e = let a = e.placed in let b = fields_not_malformed n e.fields in let c = e.within in grind (arith, nat_tests)

  pub transition_formed : (n p : ℕ) → transition_refusal file n p ≡ None → ByteAbove file n p × TargetBelow file n p
  transition_formed n p h = (λ e. grind (arith, nat_tests), grind (arith, nat_tests))

  pub transition_not_refused : (n p : ℕ) → ByteAbove file n p × TargetBelow file n p → transition_refusal file n p ≡ None
  transition_not_refused n p h =
      let b : target file n p < n = h.1 in
      ⊎_elim (λ (l : 0 < p). let a : byte file n (p - 1) < byte file n p = h.0 l in grind (arith, nat_tests))
      (λ (l : p ≤ 0). grind (arith, nat_tests))
      (cases_lt 0 p)

  pub node_formed : (n : ℕ) → node_refusal file n ≡ None → WellFormedNode file n
  node_formed n h =
      let p = or_else_none (entry_refusal file n) (first (transition_refusal file n) (file.len n)) h in
      record {
        entry = entry_formed n p.0;
        transitions = λ q l. transition_formed n q (first_none_each (transition_refusal file n) (file.len n) p.1 q l);
      }

  pub node_not_refused : (n : ℕ) → WellFormedNode file n → node_refusal file n ≡ None
  node_not_refused n f =
      ap (λ x. or_else x (first (transition_refusal file n) (file.len n))) (entry_not_refused n f.entry)
      ∙ each_first_none (transition_refusal file n) (file.len n) (λ p l. transition_not_refused n p (f.transitions p l))

  pub file_formed : refusal_of file ≡ None → WellFormed file
  file_formed h =
      let p = or_else_none (head_refusal file) (first (node_refusal file) file.nodes) h in
      record {
        head = head_formed p.0;
        each_node = λ n l. node_formed n (first_none_each (node_refusal file) file.nodes p.1 n l);
      }

  pub file_not_refused : WellFormed file → refusal_of file ≡ None
  file_not_refused w =
      ap (λ x. or_else x (first (node_refusal file) file.nodes)) (head_not_refused w.head)
      ∙ each_first_none (node_refusal file) file.nodes (λ n l. node_not_refused n (w.each_node n l))
