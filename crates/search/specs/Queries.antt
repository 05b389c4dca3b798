-- A query by its bounds, and what its opening comes to. Assumes nothing.
use Rattle.std.specs.Prelude.{ℕ, ◌⊎◌, List, Ok, Err, Result}
use Rattle.std.proofs.Common.{inl, inr}
use Rattle.byte_strings.specs.Order.{Bytes}
use Rattle.bound.specs.Value.{BoundValue, value_of}
use Rattle.law.specs.declared.Row.{Row}
use Rattle.law.specs.Values.{Search as SearchValue}
use Rattle.law.specs.Open.{Opening}
use Rattle.search.specs.declared.query.Query.{Query}
use Rattle.search.specs.declared.query.Unopened.{Unopened}
use Rattle.search.specs.declared.search.Search.{Search}
use Rattle.search.specs.Numbers.{number_of}
use Rattle.search.specs.Views.{search_of}

pub record Bounds : Type 0 where
  pub lower : BoundValue
  pub upper : BoundValue

abbrev pub bounds_of : Query → Bounds
bounds_of q = record { lower = value_of q.lower; upper = value_of q.upper }

-- the search that was opened, or the number of the refusal
abbrev pub outcome_of : {S : Type 0} → Result (Search S) Unopened → SearchValue ⊎ ℕ
outcome_of (Ok s) = inl (search_of s)
outcome_of (Err u) = inr (number_of u.refusal)

-- with the areas that are left
abbrev pub opening_by : {S : Type 0} → Result (Search S) Unopened → List (Row S) → Bytes → Opening S
opening_by r rows area = record { outcome = outcome_of r; rows = rows; key_area = area }
