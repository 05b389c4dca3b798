-- A table with its first total raised, and what that does to the keys. Assumes nothing.
use Rattle.std.specs.Prelude.{◌≡◌, ℕ, ◌+◌}
use Rattle.byte_strings.specs.Order.{Bytes}
use Rattle.graph.specs.Table.{Table}
use Rattle.graph.specs.Keys.{Key}

-- the table with another first total: all other answers are the same
abbrev pub with_first_total : Table → ℕ → Table
with_first_total t s = record {
  root = t.root;
  first_total = s;
  len = t.len;
  transition = t.transition;
  is_final = t.is_final;
  final_output = t.final_output;
  is_node = t.is_node;
  height = t.height;
}

-- the first total of a shift by a number
abbrev pub raised_total : Table → ℕ → ℕ
raised_total t by = t.first_total + by

-- the table of a shift by a number
abbrev pub shifted : Table → ℕ → Table
shifted t by = with_first_total t (raised_total t by)

-- the keys of a shift are those of the table beneath it, at the same nodes, with their totals raised
pub record RaisesTotals (t raised : Table) (by : ℕ) : Type 0 where
  pub from_beneath : (k : Bytes) (total : ℕ) (y : Key t k total) → (z : Key raised k (total + by)) × (z.node ≡ y.node)
  pub to_beneath : (k : Bytes) (total : ℕ) (z : Key raised k total) → (u : ℕ) × (total ≡ u + by) × (y : Key t k u) × (y.node ≡ z.node)
