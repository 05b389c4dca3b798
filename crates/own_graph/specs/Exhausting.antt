-- What callers of several searches owe. Assumes nothing.
use Rattle.std.specs.Prelude.{◌≡◌, ℕ, List, [], length, Some, None, Option}
use Rattle.bound.specs.Value.{BoundValue, unbounded}
use Rattle.graph.specs.Table.{Table}
use Rattle.filter.specs.Filter.{Filter}
use Rattle.law.specs.Entries.{Entry, Lists}
use Rattle.law.specs.Values.{Search}
use Rattle.law.specs.Theorems.{Exhausted}

-- the search s is exhausted
abbrev pub IsExhausted : {S : Type 0} → Table → Filter S → BoundValue → BoundValue → Search → Type 0
IsExhausted {S} g f lower upper s = (es : List (Entry S)) × Exhausted g f lower upper s es

-- the number is that of all accepted keys; no number only where there are none
abbrev pub CountsAll : {S : Type 0} → Table → Filter S → Option ℕ → Type 0
CountsAll {S} g f None = (fs : List (Entry S)) → Lists g f unbounded unbounded fs → fs ≡ []
CountsAll {S} g f (Some n) = (fs : List (Entry S)) → Lists g f unbounded unbounded fs → n ≡ length fs
