-- The groups of a node of an opened list: names that go on from its prefix by the same byte. Assumes nothing.
use Rattle.std.specs.Prelude.{◌≡◌, ℕ, ◌+◌, ◌%◌, ◌<◌, ◌≤◌, List, Some, None, Option}
use Rattle.byte_strings.specs.Order.{Bytes}
use Rattle.prefixes.specs.Shared.{group_at}
use Rattle.prefixes.specs.Walks.{byte_at}
use Rattle.list.specs.declared.groups.Group.{Group}

-- g is a group of node n, at its position
abbrev pub Stands : List Bytes → ℕ → Group → Type 0
Stands ns n g = group_at ns n g.position ≡ Some g.lowest

-- the group at position p, if there is one
abbrev pub placed : ℕ → Option ℕ → Option Group
placed p None = None
placed p (Some c) = Some (record { position = p; lowest = c })

-- g is a group of node n behind position i and not behind position p; none is at p
abbrev pub Towards : List Bytes → ℕ → ℕ → ℕ → Option Group → Type 0
Towards ns n i p None = group_at ns n p ≡ None
Towards ns n i p (Some g) = Stands ns n g × (i < g.position) × (g.position ≤ p)

-- all groups of node n at position p and behind go on by a byte above b
abbrev pub Above : List Bytes → ℕ → ℕ → ℕ → Type 0
Above ns n b p = (q c : ℕ) → p ≤ q → group_at ns n q ≡ Some c → b < byte_at ns c (n % 256)

-- the last group of node n that goes on by a byte not above b
abbrev pub LastNotAbove : List Bytes → ℕ → ℕ → Option Group → Type 0
LastNotAbove ns n b None = Above ns n b 0
LastNotAbove ns n b (Some g) = Stands ns n g × (byte_at ns g.lowest (n % 256) ≤ b) × Above ns n b (g.position + 1)
