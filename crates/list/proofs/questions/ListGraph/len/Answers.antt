use Rattle.std.proofs.Common.{sym, ◌∙◌}
use Rattle.list.proofs.Answered.{len_behind}
use Rattle.list.proofs.questions.ListGraph.len.Goals as goal

pub returns-in-Some : goal.returns-in-Some
returns-in-Some c =
    let t = c.in-Some.ensures in
    c.following.ensures ∙ len_behind c.args.self.now c.args.node (sym c.if-not-is_node.ensures) c.in-Some.last.position c.in-Some.last.lowest t.0 t.2
