-- How a search keeps its place among its paths, in its rows. The law takes a place as given where a call begins, and says
-- it again of what the call leaves; an opening is at the start. Nothing else of this relation is used. Assumes nothing.
use Rattle.std.specs.Prelude.{◌≡◌, ℕ, zero, suc, ◌<◌, ◌⊎◌, ◌↔◌, List, [], ◌∷◌, ◌++◌, get_or, take, Some, None, Option}
use Rattle.byte_strings.specs.Order.{Bytes, ◌≺◌}
use Rattle.bound.specs.Value.{BoundValue}
use Rattle.graph.specs.Table.{Table}
use Rattle.filter.specs.Filter.{Filter}
use Rattle.law.specs.declared.Row.{Row}
use Rattle.law.specs.Values.{View, byte_at}
use Rattle.law.specs.Next.{root_row}
use Rattle.law.specs.Paths.{PathOf, Place, Follows}

module _ (g : Table) where
  -- the transitions of the node n before the position p have bytes below b
  abbrev pub Passed : ℕ → ℕ → ℕ → Type 0
  Passed n p b = (q : ℕ) → q < p → q < g.len n → byte_at g n q < b

  -- v stands after w, and if it goes on from w, then by a transition of node n that is not yet passed
  abbrev pub Ahead : Bytes → ℕ → ℕ → Bytes → Type 0
  Ahead w n p v = (w ≺ v) × ((b : ℕ) (x : Bytes) → v ≡ w ++ (b ∷ x) → Passed n p b)

module _ {S : Type 0} (g : Table) (f : Filter S) where
  -- with d rows in use: the paths ahead of the top row, whose own path is the first d − 1 key bytes
  abbrev pub Coming : ℕ → List (Row S) → Bytes → Bytes → Type 0
  Coming zero rows area v = ⊥
  Coming (suc d) rows area v =
      let r = get_or rows d (root_row g f) in
      Ahead g (take d area) r.node r.position v

  -- and the empty one first, where its total waits
  abbrev pub Awaited : Option ℕ → ℕ → List (Row S) → Bytes → Bytes → Type 0
  Awaited None d rows area v = Coming d rows area v
  Awaited (Some t) d rows area v = (v ≡ []) ⊎ Coming d rows area v

  -- the paths that are still to come for a search with these areas
  abbrev pub ToCome : View S → Bytes → Type 0
  ToCome x v = Awaited x.search.waiting x.search.depth x.rows x.key_area v

-- the search stands at a place: of all its paths just those which follow are still to come
abbrev pub StandsAt : {S : Type 0} → Table → Filter S → BoundValue → View S → Place → Type 0
StandsAt g f lower z p = (v : Bytes) (u : ℕ) → PathOf g f lower v u → ToCome g f z v ↔ Follows p v
