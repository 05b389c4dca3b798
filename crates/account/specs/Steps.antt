-- The steps of an account. Assumes nothing.
use Rattle.std.specs.Prelude.{◌≡◌, ℕ, List, ◌++◌, Some, None, Ok, Err, Result}
use Rattle.byte_strings.specs.Order.{Bytes}
use Rattle.filter.specs.Filter.{Filter}
use Rattle.graph.specs.Table.{Table}
use Rattle.graph.specs.Shifted.{shifted, RaisesTotals}
use Rattle.graph.specs.declared.shift.Shift.{Shift}
use Rattle.names.specs.declared.name.Name.{Name}
use Rattle.names.specs.Names.{names_of}
use Rattle.names.specs.Refusals.{refusal_of as refusal_of_list}
use Rattle.prefixes.specs.Prefixes.{prefix_table}
use Rattle.prefixes.specs.Keys.{KeysAreTheNames, PathsAreThePrefixes}
use Rattle.search.specs.Queries.{Bounds}
use Rattle.list.specs.declared.list.List.{List as Opened}
use Rattle.list.specs.Opened.{names_in}
use Rattle.input.specs.Asked.{Asked}
use Rattle.account.specs.declared.refusal.Refusal.TheVariants.{List as ListRefused}
use Rattle.account.specs.declared.refusal.AccountError.{AccountError}
use Rattle.account.specs.declared.refusal.AccountError.TheVariants.{Refused, OutOfMemory}
use Rattle.account.specs.Numbers.{number_of}
use Rattle.account.specs.Refusals.{bound_refusal}
use Rattle.account.specs.Tables.{graph_table}
use Rattle.account.specs.Account.{refused_line, unless_refused}
use Rattle.account.specs.Searches.{Searches}

-- the names ns are those of an opened list, as its keys and paths say
pub record Holds (ns : List Bytes) (l : Opened) : Type 0 where
  pub names : names_in l ≡ ns
  pub keys : KeysAreTheNames (prefix_table (names_in l)) ns
  pub paths : PathsAreThePrefixes (prefix_table (names_in l)) ns

-- the list of the names that rows cut out of a text, or why they are none
abbrev pub OpensList : Bytes → List Name → Result Opened AccountError → Type 0
OpensList text rows (Ok l) = (None ≡ refusal_of_list text rows) × Holds (names_of text rows) l
OpensList text rows (Err (Refused (ListRefused e))) = Some e ≡ refusal_of_list text rows
OpensList text rows (Err (Refused e)) = ⊥
OpensList text rows (Err OutOfMemory) = Unit {0}

-- the list with its totals raised by a number: the sum always fits
abbrev pub ShiftsList : Opened → ℕ → Result (Shift Opened) AccountError → Type 0
ShiftsList l by (Ok s) = (graph_table s ≡ shifted (prefix_table (names_in l)) by) × RaisesTotals (prefix_table (names_in l)) (graph_table s) by
ShiftsList l by (Err e) = ⊥

-- the lines are printed after those before, and where a refusal ends them, all but its line
abbrev pub Prints : Bytes → Result (Unit {0}) AccountError → Bytes → Bytes → Type 0
Prints lines (Ok u) before after = after ≡ before ++ lines
Prints lines (Err (Refused e)) before after = after ++ refused_line (number_of e) ≡ before ++ lines
Prints lines (Err OutOfMemory) before after = Unit {0}

-- what a search prints: whatever is asked that it is for, the lines of those names
abbrev pub Tells : {S : Type 0} → Table → Filter S → Bounds → Result (Unit {0}) AccountError → Bytes → Bytes → Type 0
Tells g f b result before after = (a : Asked) → Searches g f b.lower b.upper a → Prints (unless_refused a (bound_refusal a)) result before after
