-- What the paths and the keys of a list of names are. Assumes nothing.
use Rattle.std.specs.Prelude.{◌≡◌, ℕ, ◌<◌, true, List, length}
use Rattle.byte_strings.specs.Order.{Bytes}
use Rattle.graph.specs.Table.{Table}
use Rattle.graph.specs.Keys.{Leads, Key}
use Rattle.prefixes.specs.Prefixes.{name_at, is_prefix, node_of}

-- the keys are the names, and the total of name i is i
pub record KeysAreTheNames (t : Table) (ns : List Bytes) : Type 0 where
  pub key_is_name : (k : Bytes) (total : ℕ) → Key t k total → (total < length ns) × (name_at ns total ≡ k)
  pub name_is_key : (i : ℕ) → i < length ns → Key t (name_at ns i) i

-- bytes are a path from the root exactly where some name begins with them, and lead to their node with the total 0
pub record PathsAreThePrefixes (t : Table) (ns : List Bytes) : Type 0 where
  pub path_is_prefix : (w : Bytes) (m u : ℕ) → Leads t t.root t.first_total w m u → (is_prefix w ns ≡ true) × (m ≡ node_of ns w) × (u ≡ 0)
  pub prefix_is_path : (w : Bytes) → is_prefix w ns ≡ true → Leads t t.root t.first_total w (node_of ns w) 0
