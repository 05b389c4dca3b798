use Rattle.std.proofs.Common.{◌-◌, List, length}
use Rattle.law.specs.Entries.{Entry}
use Rattle.law.specs.History.{History}
use Rattle.law.proofs.Kept.{listable}
use Rattle.search.specs.Queries.{bounds_of}
use Rattle.search.specs.Views.{view_of}
use Rattle.own_graph.proofs.exhausting.exhaust.Given as goal

abbrev pub invariant-keys : goal.invariant-keys
invariant-keys g l =
    let b = bounds_of l.fn.query in
    (es : List (Entry _)) × History (g.G.Graph.table l.graph) (g.A.Automaton.table l.filter) b.lower b.upper (view_of l.search l.rows l.key_area) es

abbrev pub decreases-keys : goal.decreases-keys
decreases-keys g l =
    let b = bounds_of l.fn.query in
    length (listable (g.G.Graph.table l.graph) (g.A.Automaton.table l.filter) b.lower b.upper (g.met.G.Graph.lawful l.graph)).0 - l.search.count
