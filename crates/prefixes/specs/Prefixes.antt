-- The prefixes of names as the nodes of a graph. Assumes nothing.
use Rattle.std.specs.Prelude.{ℕ, zero, suc, ◌+◌, ◌-◌, ◌*◌, ◌/◌, ◌%◌, Bool, false, cond, List, [], ◌∷◌, ◌++◌, length, take, Some, None, Option, ◌==◌, nat_le, nat_lt, slice_index_or}
use Rattle.std.specs.List.{slice_get}
use Rattle.byte_strings.specs.Order.{Bytes, begins}
use Rattle.graph.specs.declared.Transition.{Transition}
use Rattle.graph.specs.Table.{Table}

-- name number i, and the empty string where there is none
abbrev pub name_at : List Bytes → ℕ → Bytes
name_at ns i = slice_index_or ns i []

-- the number of the lowest name that begins with w, and the number of names where none does
unfoldable pub lowest : Bytes → List Bytes → ℕ
lowest w [] = 0
lowest w (a ∷ more) = cond (begins w a) 0 (suc (lowest w more))

-- whether some name begins with w
abbrev pub is_prefix : Bytes → List Bytes → Bool
is_prefix w ns = nat_lt (lowest w ns) (length ns)

-- the node of the prefix w: 256 times the lowest name that begins with it, and its length
abbrev pub node_of : List Bytes → Bytes → ℕ
node_of ns w = 256 * lowest w ns + length w

-- the prefix of node n: the first n % 256 bytes of name n / 256
abbrev pub prefix_of : List Bytes → ℕ → Bytes
prefix_of ns n = take (n % 256) (name_at ns (n / 256))

-- whether there is a name i with d bytes or more
abbrev pub has_prefix : List Bytes → ℕ → ℕ → Bool
has_prefix ns i d = cond (nat_lt i (length ns)) (nat_le d (length (name_at ns i))) false

-- whether n is a node: name n / 256 has n % 256 bytes or more, and is the lowest that begins with them
unfoldable pub is_node : List Bytes → ℕ → Bool
is_node ns n = cond (has_prefix ns (n / 256) (n % 256)) (lowest (prefix_of ns n) ns == n / 256) false

-- the bytes, among the f from b on, that lengthen w to a prefix
unfoldable pub bytes_after : List Bytes → Bytes → ℕ → ℕ → List ℕ
bytes_after ns w zero b = []
bytes_after ns w (suc f) b = cond (is_prefix (w ++ (b ∷ [])) ns) (b ∷ bytes_after ns w f (suc b)) (bytes_after ns w f (suc b))

-- the bytes of the transitions of node n
unfoldable pub node_bytes : List Bytes → ℕ → List ℕ
node_bytes ns n = cond (is_node ns n) (bytes_after ns (prefix_of ns n) 256 0) []

-- the transition that lengthens the prefix w by a byte
abbrev pub lengthened : List Bytes → Bytes → ℕ → Transition
lengthened ns w b = record { byte = b; output = 0; target = node_of ns (w ++ (b ∷ [])) }

abbrev pub lengthened_by : List Bytes → Bytes → Option ℕ → Option Transition
lengthened_by ns w None = None
lengthened_by ns w (Some b) = Some (lengthened ns w b)

-- a node is final where its prefix is a whole name
abbrev pub is_name : List Bytes → ℕ → Bool
is_name ns n = cond (is_node ns n) (n % 256 == length (name_at ns (n / 256))) false

abbrev pub prefix_table : List Bytes → Table
prefix_table ns = record {
  root = 0;
  first_total = 0;
  len = λ n. length (node_bytes ns n);
  transition = λ n p. lengthened_by ns (prefix_of ns n) (slice_get (node_bytes ns n) p);
  is_final = λ n. is_name ns n;
  final_output = λ n. cond (is_name ns n) (n / 256) 0;
  is_node = λ n. is_node ns n;
  height = λ n. 255 - n % 256;
}
