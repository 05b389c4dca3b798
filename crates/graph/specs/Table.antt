-- A graph of names by the table of its answers, and the laws that every table keeps. Assumes nothing.
use Rattle.std.specs.Prelude.{◌≡◌, ℕ, ◌<◌, ◌≤◌, Bool, false, Some, None, Option, ◌≢◌}
use Rattle.graph.specs.declared.Transition.{Transition}

pub record Table : Type 0 where
  pub root : ℕ
  pub first_total : ℕ
  -- the number of transitions of a node
  pub len : ℕ → ℕ
  -- the transition of a node at a position
  pub transition : ℕ → ℕ → Option Transition
  pub is_final : ℕ → Bool
  pub final_output : ℕ → ℕ
  -- whether a number names a node
  pub is_node : ℕ → Bool
  -- a whole number that each kind of graph states
  pub height : ℕ → ℕ

pub record Lawful (t : Table) : Type 0 where
  -- a node has a transition at each position below its number of transitions
  pub present : (n p : ℕ) → p < t.len n → (x : Transition) × (t.transition n p ≡ Some x)
  -- and at no other
  pub absent : (n p : ℕ) → t.len n ≤ p → t.transition n p ≡ None
  -- the bytes rise strictly
  pub rising : (n p q : ℕ) (x y : Transition) → p < q → t.transition n p ≡ Some x → t.transition n q ≡ Some y → x.byte < y.byte
  -- and are bytes
  pub byte_sized : (n p : ℕ) (x : Transition) → t.transition n p ≡ Some x → x.byte < 256
  -- each target's height is below its node's
  pub falling : (n p : ℕ) (x : Transition) → t.transition n p ≡ Some x → t.height x.target < t.height n
  -- a node that is not final has the final output 0
  pub not_final : (n : ℕ) → t.is_final n ≡ false → t.final_output n ≡ 0
  -- a number that names no node answers as a non-final node without transitions
  pub no_node : (n : ℕ) → t.is_node n ≡ false → (t.len n ≡ 0) × (t.is_final n ≡ false)

-- what `find_input` answers: the position of the byte, and none where no transition has it
abbrev pub Finds : Table → ℕ → ℕ → Option ℕ → Type 0
Finds t n b None = (p : ℕ) (x : Transition) → t.transition n p ≡ Some x → x.byte ≢ b
Finds t n b (Some p) = (x : Transition) × (t.transition n p ≡ Some x) × (x.byte ≡ b)
