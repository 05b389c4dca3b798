use Rattle.std.proofs.Common.{◌-◌, ◌+◌}
use Rattle.search.proofs.Places.{Strides}
use Rattle.search.proofs.opening.first_above.Given as goal

abbrev pub invariant-loop-transition : goal.invariant-loop-transition
invariant-loop-transition g l = Strides (g.G.Graph.table l.graph) (g.met.G.Graph.lawful l.graph) l.node l.byte l.position l.stride

abbrev pub decreases-loop-transition : goal.decreases-loop-transition
decreases-loop-transition g l = ((g.G.Graph.table l.graph).len l.node - l.position) + l.stride
