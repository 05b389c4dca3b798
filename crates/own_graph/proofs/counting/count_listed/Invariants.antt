use Rattle.std.proofs.Common.{◌-◌, length}
use Rattle.law.proofs.Kept.{listable}
use Rattle.search.specs.Queries.{bounds_of}
use Rattle.search.specs.Views.{view_of}
use Rattle.own_graph.proofs.Counted.{Going}
use Rattle.own_graph.proofs.counting.count_listed.Given as goal

abbrev pub invariant-keys : goal.invariant-keys
invariant-keys g l =
    let b = bounds_of l.fn.query in
    Going (g.G.Graph.table l.graph) (g.A.Automaton.table l.filter) b.lower b.upper l.fn.rows l.fn.key_area (view_of l.search l.rows l.key_area)

abbrev pub decreases-keys : goal.decreases-keys
decreases-keys g l =
    let b = bounds_of l.fn.query in
    length (listable (g.G.Graph.table l.graph) (g.A.Automaton.table l.filter) b.lower b.upper (g.met.G.Graph.lawful l.graph)).0 - l.search.count
