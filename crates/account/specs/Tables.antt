-- The tables of the graph and the filter that an account searches. Assumes nothing.
use Rattle.std.specs.Prelude.{ℕ, Option}
use Rattle.filter.specs.declared.StartsWithState.{StartsWithState}
use Rattle.filter.specs.declared.PairState.{PairState}
use Rattle.filter.specs.Filter.{Filter}
use Rattle.filter.specs.Tables.{intersection_table, starts_with_table, str_table, subsequence_table}
use Rattle.graph.specs.Table.{Table}
use Rattle.graph.specs.Shifted.{with_first_total}
use Rattle.graph.specs.declared.shift.Shift.{Shift}
use Rattle.prefixes.specs.Prefixes.{prefix_table}
use Rattle.list.specs.declared.list.List.{List as Opened}
use Rattle.list.specs.Opened.{names_in}
use Rattle.automaton.specs.declared.filters.intersection.Intersection.{Intersection}
use Rattle.automaton.specs.declared.filters.starts_with.StartsWith.{StartsWith}
use Rattle.automaton.specs.declared.filters.str.Str.{Str}
use Rattle.automaton.specs.declared.filters.subsequence.Subsequence.{Subsequence}

abbrev pub graph_table : Shift Opened → Table
graph_table s = with_first_total (prefix_table (names_in s.graph)) s.first_total

abbrev pub filter_table : Intersection (StartsWith Str) Subsequence → Filter (PairState (StartsWithState (Option ℕ)) ℕ)
filter_table f = intersection_table (starts_with_table (str_table f.left.filter.bytes.now)) (subsequence_table f.right.bytes.now)
