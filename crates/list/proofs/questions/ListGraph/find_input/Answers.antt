use Rattle.std.proofs.Common.{sym}
use Rattle.list.proofs.Answered.{no_node_finds, finds_none}
use Rattle.list.proofs.questions.ListGraph.find_input.Goals as goal

pub returns-then-not-is_node : goal.returns-then-not-is_node
returns-then-not-is_node c = no_node_finds c.args.self.now c.args.node (sym c.if-not-is_node.ensures) c.args.byte

pub returns-in_err-last : goal.returns-in_err-last
returns-in_err-last c = finds_none c.args.self.now c.args.node (sym c.if-not-is_node.ensures) c.args.byte _ c.in_err-last.ensures c.from_residual.ensures
