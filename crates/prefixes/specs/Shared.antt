-- How many first bytes names share. Assumes nothing.
use Rattle.std.specs.Prelude.{ℕ, zero, suc, ◌/◌, ◌%◌, cond, List, [], ◌∷◌, length, Some, Option, ◌==◌}
use Rattle.byte_strings.specs.Order.{Bytes}
use Rattle.prefixes.specs.Prefixes.{name_at}
use Rattle.prefixes.specs.Ends.{later_group}

-- how many first bytes two strings have in common
unfoldable pub common : Bytes → Bytes → ℕ
common [] b = 0
common (x ∷ a) [] = 0
common (x ∷ a) (y ∷ b) = cond (x == y) (suc (common a b)) 0

-- how many first bytes each name shares with the one before; the first has another one before it
unfoldable pub shared_behind : Bytes → List Bytes → List ℕ
shared_behind before [] = []
shared_behind before (a ∷ more) = common before a ∷ shared_behind a more

abbrev pub shared_in : List Bytes → List ℕ
shared_in ns = shared_behind [] ns

-- the lowest name of the group at position p of the prefix of length d of name i, which is longer, and of any name i
abbrev pub group_behind : List ℕ → ℕ → ℕ → ℕ → Option ℕ
group_behind xs i d zero = Some i
group_behind xs i d (suc q) = later_group xs i d q

abbrev pub group_of_name : List Bytes → ℕ → ℕ → ℕ → Option ℕ
group_of_name ns i d p = cond (d == length (name_at ns i)) (later_group (shared_in ns) i d p) (group_behind (shared_in ns) i d p)

-- the lowest name of the group at position p of node n
abbrev pub group_at : List Bytes → ℕ → ℕ → Option ℕ
group_at ns n p = group_of_name ns (n / 256) (n % 256) p
