use Rattle.std.proofs.Common.{inl, inr, ◌∙◌}
use Rattle.own_graph.proofs.Finding.{finds_way}
use Rattle.own_graph.proofs.board.BoardGraph.find_input.Goals as goal
use Rattle.own_graph.proofs.board.BoardGraph.find_input.Goals.{in-2, in-1}

pub returns : goal.returns
returns c =
    let k = c.in_ok-checked_sub.ensures in
    finds_way c.args.self.now.before c.args.node c.match-node.first c.args.byte c.from-position.result c.then_some.result
    (elim c.match-node.branch [ in-2 w ↦ inl (w.in-2.is, w.first-is) | in-1 w ↦ inr (w.in-1.is, w.first-is) ])
    k.0 (c.from-position.ensures ∙ k.1) c.then_some.ensures
