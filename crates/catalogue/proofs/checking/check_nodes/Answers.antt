use Rattle.std.proofs.Common.{◌≡◌, Err, sym, ap, ◌∙◌, rules, arith}
use Rattle.std.specs.Result.{result_err}
use Rattle.catalogue.specs.Format.{file_of}
use Rattle.catalogue.specs.Refusals.{node_refusal}
use Rattle.catalogue.specs.First.{first_none, first_more, first_found, body_start_none, body_start_more}
use Rattle.catalogue.proofs.checking.check_nodes.Goals as goal

pub loop-node-init : goal.loop-node-init
loop-node-init c =
    let file = file_of c.args.bytes.now in
    (first_none (node_refusal file), omega (arith, body_start_none file), omega arith)

pub returns-in_err-start : goal.returns-in_err-start
returns-in_err-start c =
    let f = node_refusal (file_of c.args.bytes.now) in
    let x = c.in_err-start.field-0.0 in
    let r : c.from_residual.result ≡ Err x = search rules in
    ap result_err r ∙ sym (first_found f x c.loop-node.node c.args.nodes (omega arith) c.loop-node.invariant.0 c.in_err-start.ensures)

pub loop-node-preserved : goal.loop-node-preserved
loop-node-preserved c =
    let file = file_of c.args.bytes.now in
    let e = c.in_ok-start.ensures in
    (first_more (node_refusal file) c.loop-node.node c.loop-node.invariant.0 e.0, omega (arith, e.1, body_start_more file c.loop-node.node), e.2)
