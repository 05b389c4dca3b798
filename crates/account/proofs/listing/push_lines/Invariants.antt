use Rattle.std.proofs.Common.{◌-◌, vec_items}
use Rattle.search.specs.Queries.{bounds_of}
use Rattle.search.specs.Views.{view_of}
use Rattle.account.specs.Tables.{graph_table, filter_table}
use Rattle.account.proofs.Tables.{lawful_graph}
use Rattle.account.proofs.Going.{Going, count_of_all}
use Rattle.account.proofs.listing.push_lines.Given as goal

abbrev pub invariant-loop-length : goal.invariant-loop-length
invariant-loop-length l =
    Going (graph_table l.graph) (filter_table l.filter) (bounds_of l.query).lower (bounds_of l.query).upper
    (vec_items l.initial.out) (vec_items l.out) (view_of l.search l.rows l.key_area)

abbrev pub decreases-loop-length : goal.decreases-loop-length
decreases-loop-length l =
    count_of_all (graph_table l.graph) (filter_table l.filter) (bounds_of l.query).lower (bounds_of l.query).upper (lawful_graph l.graph) - l.search.count
