use Rattle.std.proofs.Common.{sym}
use Rattle.search.proofs.Places.{byte_found}
use Rattle.search.proofs.opening.seek_byte.Goals as goal

pub returns : goal.returns
returns g c =
    byte_found (g.G.Graph.table c.args.graph.now) (g.met.G.Graph.lawful c.args.graph.now) c.args.node c.args.byte c.in_ok-position.position c.in_ok-transition.transition
    c.in_ok-position.ensures (sym c.in_ok-transition.ensures)
