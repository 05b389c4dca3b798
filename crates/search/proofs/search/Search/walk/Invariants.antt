use Rattle.std.proofs.Common.{◌≡◌, false}
use Rattle.law.specs.Values.{too_short}
use Rattle.law.specs.Next.{walk, all_looks}
use Rattle.search.specs.Views.{view_of}
use Rattle.search.proofs.search.Search.walk.Given as goal

abbrev pub invariant-loop-item : goal.invariant-loop-item
invariant-loop-item g l =
    let t = g.G.Graph.table l.graph in
    let f = g.A.Automaton.table l.filter in
    record {
      fits : too_short (view_of l.self l.rows l.key_area) ≡ false;
      same : walk t f (view_of l.self l.rows l.key_area) ≡ walk t f (view_of l.initial.self l.initial.rows l.initial.key_area);
    }

abbrev pub decreases-loop-item : goal.decreases-loop-item
decreases-loop-item g l = all_looks (g.G.Graph.table l.graph) (g.A.Automaton.table l.filter) l.self.stack.depth l.rows
