-- That a key has one path and one total. Assumes nothing.
use Rattle.std.specs.Prelude.{◌≡◌, ℕ}
use Rattle.byte_strings.specs.Order.{Bytes}
use Rattle.graph.specs.Table.{Table, Lawful}
use Rattle.graph.specs.Keys.{Leads, Key}

pub record OneTotal (t : Table) : Type 0 where
  -- bytes lead from a node to one node, with one total
  pub one_path : (n s : ℕ) (w : Bytes) (m m' u u' : ℕ) → Leads t n s w m u → Leads t n s w m' u' → (m ≡ m') × (u ≡ u')
  -- a key has one total
  pub one_total : (k : Bytes) (total total' : ℕ) → Key t k total → Key t k total' → total ≡ total'

abbrev pub LawfulHasOneTotal : Type 0
LawfulHasOneTotal = (t : Table) → Lawful t → OneTotal t
