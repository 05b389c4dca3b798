-- The squares of a chess board as a table. Assumes nothing.
use Rattle.std.specs.Prelude.{ℕ, ◌+◌, ◌*◌, Bool, cond, ◌||◌, Some, None, ◌==◌, nat_lt}
use Rattle.graph.specs.declared.Transition.{Transition}
use Rattle.graph.specs.Table.{Table}

-- node 2 is the root, 1 stands for every column, and 0 for every square
abbrev pub is_root : ℕ → Bool
is_root n = n == 2

abbrev pub is_column : ℕ → Bool
is_column n = n == 1

-- from the root by "a" and on to a column, which counts 8 squares; from a column by "1" and on to a square, which counts one
abbrev pub to_column : ℕ → Transition
to_column p = record { byte = 0x61 + p; output = 8 * p; target = 1 }

abbrev pub to_square : ℕ → Transition
to_square p = record { byte = 0x31 + p; output = 1 * p; target = 0 }

abbrev pub ways : ℕ → ℕ
ways n = cond (is_root n || is_column n) 8 0

-- a square counts itself too
abbrev pub board_table : ℕ → Table
board_table before = record {
  root = 2;
  first_total = before;
  len = ways;
  transition = λ n p. cond (nat_lt p (ways n)) (Some (cond (is_root n) (to_column p) (to_square p))) None;
  is_final = λ n. n == 0;
  final_output = λ n. cond (n == 0) 1 0;
  is_node = λ n. nat_lt n 3;
  height = λ n. n;
}
