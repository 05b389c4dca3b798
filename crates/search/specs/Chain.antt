-- A graph for the tests alone: node n leads by "a" to node n - 1, and every node is final. No contract cites it. Assumes nothing.
use Rattle.std.specs.Prelude.{ℕ, ◌-◌, true, cond, Some, None, ◌==◌, nat_lt}
use Rattle.graph.specs.declared.Transition.{Transition}
use Rattle.graph.specs.Table.{Table}

abbrev pub ways : ℕ → ℕ
ways n = cond (n == 0) 0 1

abbrev pub step : ℕ → Transition
step n = record { byte = 0x61; output = 0; target = n - 1 }

-- the keys are "", "a" and "aa"
abbrev pub chain_table : Table
chain_table = record {
  root = 2;
  first_total = 0;
  len = ways;
  transition = λ n p. cond (nat_lt p (ways n)) (Some (step n)) None;
  is_final = λ _. true;
  final_output = λ _. 0;
  is_node = λ _. true;
  height = λ n. n;
}
