-- The walk over the transitions of a node, from one group of names to the next. Assumes nothing.
use Rattle.std.specs.Prelude.{◌≡◌, ℕ, ◌+◌, ◌-◌, ◌/◌, ◌%◌, ◌<◌, ◌≤◌, ◌&&◌, true, false, List, [], length, map, drop, Some, None, Option, nat_lt, slice_index}
use Rattle.byte_strings.specs.Order.{Bytes, begins}
use Rattle.std.specs.Bool.{then_some}
use Rattle.graph.specs.declared.Transition.{Transition}
use Rattle.prefixes.specs.Prefixes.{name_at, lowest, prefix_of, is_node, bytes_after, node_bytes, lengthened}

-- byte d of name j, and 0 beyond its end
abbrev pub byte_at : List Bytes → ℕ → ℕ → ℕ
byte_at ns j d = slice_index (name_at ns j) d

-- the names from j up to end, and none from there up to bound, begin with w, as the last of them and the one after show
pub record Group (ns : List Bytes) (w : Bytes) (j bound end : ℕ) : Type 0 where
  pub after : j < end
  pub within : end ≤ bound
  pub last : begins w (name_at ns (end - 1)) ≡ true
  pub stop : end < bound → begins w (name_at ns end) ≡ false

-- n is a node: there is that prefix, and no lower name begins with it
pub record Node (ns : List Bytes) (n : ℕ) : Type 0 where
  pub within : n / 256 < length ns
  pub short : n % 256 ≤ length (name_at ns (n / 256))
  pub low : lowest (prefix_of ns n) ns ≡ n / 256

-- the prefix of a node, and none of another number
abbrev pub node_prefix : List Bytes → ℕ → Option Bytes
node_prefix ns n = then_some (is_node ns n) (prefix_of ns n)

-- of the names that begin with w, from name i on, those before name j lengthen it by bytes below b, and those from j on by others
pub record Divided (ns : List Bytes) (w : Bytes) (i j b : ℕ) : Type 0 where
  pub starts : begins w (name_at ns i) ≡ true
  pub from : i ≤ j
  pub within : j ≤ length ns
  pub small : b ≤ 256
  pub below : (m : ℕ) → m < j → begins w (name_at ns m) ≡ true → length w < length (name_at ns m) → byte_at ns m (length w) < b
  pub longer : (m : ℕ) → j ≤ m → m < length ns → begins w (name_at ns m) ≡ true → length w < length (name_at ns m)
  pub above : (m : ℕ) → j ≤ m → m < length ns → begins w (name_at ns m) ≡ true → b ≤ byte_at ns m (length w)

-- the bytes from b on that lengthen w
abbrev pub rest : List Bytes → Bytes → ℕ → List ℕ
rest ns w b = bytes_after ns w (256 - b) b

-- the transitions of node n, in order
abbrev pub transitions : List Bytes → ℕ → List Transition
transitions ns n = map (lengthened ns (prefix_of ns n)) (node_bytes ns n)

-- name j, where it begins with w
abbrev pub begun_at : List Bytes → Bytes → ℕ → Option ℕ
begun_at ns w j = then_some (nat_lt j (length ns) && begins w (name_at ns j)) j

-- the walk over the prefix w stands at name j, the lowest of its transition
pub record Stands (ns : List Bytes) (w : Bytes) (j : ℕ) : Type 0 where
  pub first : ℕ
  pub floor : ℕ
  pub divided : Divided ns w first j floor
  pub there : j < length ns
  pub begun : begins w (name_at ns j) ≡ true

-- the transition of name j
abbrev pub transition_at : List Bytes → Bytes → ℕ → Transition
transition_at ns w j = lengthened ns w (byte_at ns j (length w))

-- the transitions from that of name j on, and those behind it
abbrev pub left_from : List Bytes → Bytes → ℕ → List Transition
left_from ns w j = map (lengthened ns w) (rest ns w (byte_at ns j (length w)))

abbrev pub left_behind : List Bytes → Bytes → ℕ → List Transition
left_behind ns w j = map (lengthened ns w) (rest ns w (byte_at ns j (length w) + 1))

-- the transitions that a walk has left, where it stands
abbrev pub left : List Bytes → Bytes → Option ℕ → List Transition
left ns w None = []
left ns w (Some j) = left_from ns w j

-- so many transitions of node n, whose prefix is w, are passed; o is the lowest name of the next one's group
pub record Passed (ns : List Bytes) (n : ℕ) (w : Bytes) (p : ℕ) (o : Option ℕ) : Type 0 where
  pub stands : (j : ℕ) → o ≡ Some j → ∥ Stands ns w j ∥₁
  pub left : left ns w o ≡ drop p (transitions ns n)
