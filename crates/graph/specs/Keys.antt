-- The keys of a graph: the bytes of its paths from the root to final nodes, with their totals as whole numbers. Assumes nothing.
use Rattle.std.specs.Prelude.{◌≡◌, ℕ, ◌+◌, true, [], ◌∷◌, Some}
use Rattle.byte_strings.specs.Order.{Bytes}
use Rattle.graph.specs.declared.Transition.{Transition}
use Rattle.graph.specs.Table.{Table}

-- from node n with the total s, the bytes w lead to node m with the total u
abbrev pub Leads : Table → ℕ → ℕ → Bytes → ℕ → ℕ → Type 0
Leads t n s [] m u = (m ≡ n) × (u ≡ s)
Leads t n s (b ∷ w) m u = (p : ℕ) × (x : Transition) × (t.transition n p ≡ Some x) × (x.byte ≡ b) × Leads t x.target (s + x.output) w m u

-- k leads from the root to a final node, and its total is first total, path outputs and final output together
pub record Key (t : Table) (k : Bytes) (total : ℕ) : Type 0 where
  pub node : ℕ
  pub sum : ℕ
  pub path : Leads t t.root t.first_total k node sum
  pub ends : t.is_final node ≡ true
  pub whole : total ≡ sum + t.final_output node
