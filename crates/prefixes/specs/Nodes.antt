-- What the nodes of a list of names are. Assumes nothing.
use Rattle.std.specs.Prelude.{◌≡◌, ℕ, ◌+◌, ◌*◌, ◌<◌, true, false, List, length}
use Rattle.byte_strings.specs.Order.{Bytes, begins}
use Rattle.graph.specs.Table.{Table}
use Rattle.prefixes.specs.Prefixes.{name_at}

-- name i is the lowest that begins with w
pub record IsLowest (ns : List Bytes) (w : Bytes) (i : ℕ) : Type 0 where
  pub there : i < length ns
  pub begun : begins w (name_at ns i) ≡ true
  pub no_lower : (j : ℕ) → j < i → begins w (name_at ns j) ≡ false

-- a number is a node exactly where it is 256 × i + d, and name i the lowest that begins with some d bytes; its height and d make 255
pub record NodesAreThePrefixes (t : Table) (ns : List Bytes) : Type 0 where
  pub node_is_prefix : (n : ℕ) → t.is_node n ≡ true → (w : Bytes) × (i : ℕ) × IsLowest ns w i × (n ≡ 256 * i + length w)
  pub prefix_is_node : (w : Bytes) (i : ℕ) → IsLowest ns w i → t.is_node (256 * i + length w) ≡ true
  pub height : (w : Bytes) (i : ℕ) → IsLowest ns w i → t.height (256 * i + length w) + length w ≡ 255
