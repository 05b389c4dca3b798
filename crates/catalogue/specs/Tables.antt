-- The table of a catalogue file as a graph, and what it has to do with the file's bytes. Assumes nothing.
use Rattle.std.specs.Prelude.{◌≡◌, ℕ, ◌+◌, ◌-◌, ◌*◌, ◌<◌, ◌≤◌, Bool, true, cond, ◌&&◌, ◌↔◌, List, length, Some, None, Option, ◌==◌, nat_lt}
use Rattle.graph.specs.Table.{Table}
use Rattle.graph.specs.declared.Transition.{Transition}
use Rattle.catalogue.specs.Format.{File, little_endian, byte, target, output}

module _ (file : File) where
  abbrev pub len_in : ℕ → ℕ
  len_in n = cond (nat_lt n file.nodes) (file.len n) 0

  abbrev pub transition_at : ℕ → ℕ → Transition
  transition_at n p = record { byte = byte file n p; output = output file n p; target = target file n p }

  abbrev pub transition_in : ℕ → ℕ → Option Transition
  transition_in n p = cond (nat_lt p (len_in n)) (Some (transition_at n p)) None

  abbrev pub is_final_in : ℕ → Bool
  is_final_in n = nat_lt n file.nodes && file.flag n == 1

  abbrev pub final_output_in : ℕ → ℕ
  final_output_in n = cond (nat_lt n file.nodes) (file.final_output n) 0

  -- the root is the last node, and a node's height is its number
  abbrev pub table_of : Table
  table_of = record {
    root = file.nodes - 1;
    first_total = 0;
    len = len_in;
    transition = transition_in;
    is_final = is_final_in;
    final_output = final_output_in;
    is_node = λ n. nat_lt n file.nodes;
    height = λ n. n;
  }

-- the table t answers what the bytes bs say: each field is the little-endian number at its place, and lies within the file
pub record AnswersBytes (bs : List ℕ) (t : Table) : Type 0 where
  -- bytes 0 to 3 hold the number of nodes, and the root is the last node
  pub nodes : (n : ℕ) → (t.is_node n ≡ true) ↔ (n < little_endian bs 4 0)
  pub root : t.root + 1 ≡ little_endian bs 4 0
  pub first_total : t.first_total ≡ 0
  pub height : (n : ℕ) → t.height n ≡ n
  -- the entry of node n has 16 bytes at 4 + 16 × n
  pub entry_within : (n : ℕ) → t.is_node n ≡ true → 4 + 16 * n + 16 ≤ length bs
  pub len : (n : ℕ) → t.is_node n ≡ true → t.len n ≡ little_endian bs 2 (4 + 16 * n + 4)
  pub is_final : (n : ℕ) → t.is_node n ≡ true → (t.is_final n ≡ true) ↔ (little_endian bs 1 (4 + 16 * n + 6) ≡ 1)
  pub final_output : (n : ℕ) → t.is_node n ≡ true → t.final_output n ≡ little_endian bs 8 (4 + 16 * n + 8)
  -- the transition at position p has 13 bytes, 13 × p after the place that the entry's first 4 bytes hold
  pub transition_within : (n p : ℕ) → p < t.len n → little_endian bs 4 (4 + 16 * n) + 13 * p + 13 ≤ length bs
  pub transition : (n p : ℕ) → p < t.len n → (x : Transition) × (t.transition n p ≡ Some x)
      × (x.byte ≡ little_endian bs 1 (little_endian bs 4 (4 + 16 * n) + 13 * p))
      × (x.target ≡ little_endian bs 4 (little_endian bs 4 (4 + 16 * n) + 13 * p + 1))
      × (x.output ≡ little_endian bs 8 (little_endian bs 4 (4 + 16 * n) + 13 * p + 5))
