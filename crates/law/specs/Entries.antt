-- What a search owes, in the subject's own words: all accepted keys within the bounds, in rising order. Assumes nothing.
use Rattle.std.specs.Prelude.{◌≡◌, ℕ, true, ◌⊎◌, ◌↔◌, List, [], ◌∷◌}
use Rattle.byte_strings.specs.Order.{Bytes, ◌≺◌}
use Rattle.bound.specs.Value.{BoundValue}
use Rattle.bound.specs.Within.{Within}
use Rattle.graph.specs.Table.{Table}
use Rattle.graph.specs.Keys.{Key}
use Rattle.filter.specs.Filter.{Filter, run, verdict}

-- what is handed out: a key, its total and the state of the filter
pub record Entry (S : Type 0) : Type 0 where
  pub key : Bytes
  pub total : ℕ
  pub state : S

-- the entry of an accepted key of the graph g within the bounds
pub record Belongs {S : Type 0} (g : Table) (f : Filter S) (lower upper : BoundValue) (e : Entry S) : Type 0 where
  pub is_key : Key g e.key e.total
  pub reported : e.state ≡ run f f.start e.key
  pub accepted : verdict f e.key ≡ true
  pub within : Within lower upper e.key

infix 50 ◌∈◌
abbrev pub ◌∈◌ : {A : Type 0} → A → List A → Type 0
x ∈ [] = ⊥
x ∈ (y ∷ ys) = (x ≡ y) ⊎ (x ∈ ys)

-- each entry's key stands below those of all later entries
abbrev pub Rises : {S : Type 0} → List (Entry S) → Type 0
Rises [] = Unit {0}
Rises {S} (e ∷ es) = ((x : Entry S) → x ∈ es → e.key ≺ x.key) × Rises es

-- es is the list: it rises, and an entry is in it exactly when it belongs to it
pub record Lists {S : Type 0} (g : Table) (f : Filter S) (lower upper : BoundValue) (es : List (Entry S)) : Type 0 where
  pub rises : Rises es
  pub exact : (e : Entry S) → (e ∈ es) ↔ Belongs g f lower upper e
