-- What an account lists, in words of names. Assumes nothing.
use Rattle.std.specs.Prelude.{◌≡◌, ℕ, ◌+◌, ◌<◌, ◌⊎◌, ◌↔◌, List, [], ◌∷◌, length, slice_index_or}
use Rattle.input.specs.Asked.{Asked}
use Rattle.account.specs.Chosen.{Chosen}
use Rattle.account.specs.Account.{Entry, entries_of}

infix 50 ◌∈◌
abbrev pub ◌∈◌ : {X : Type 0} → X → List X → Type 0
x ∈ [] = ⊥
x ∈ (y ∷ ys) = (x ≡ y) ⊎ (x ∈ ys)

-- the entry of name number i, which is chosen
pub record Listed (a : Asked) (e : Entry) : Type 0 where
  pub number : ℕ
  pub there : number < length a.names
  pub key : e.key ≡ slice_index_or a.names number []
  pub total : e.total ≡ a.shift + number
  pub chosen : Chosen a e.key

-- totals rise from entry to entry, so that each name comes once and in the list's order
abbrev pub TotalsRise : List Entry → Type 0
TotalsRise [] = Unit {0}
TotalsRise (e ∷ more) = ((x : Entry) → x ∈ more → e.total < x.total) × TotalsRise more

-- an account lists exactly the names within the bounds, with the prefix and the subsequence, in order
pub record AccountLaw : Type 0 where
  pub exact : (a : Asked) (e : Entry) → (e ∈ entries_of a) ↔ Listed a e
  pub in_order : (a : Asked) → TotalsRise (entries_of a)
