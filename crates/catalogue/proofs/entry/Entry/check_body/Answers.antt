use Rattle.std.proofs.Common.{◌≡◌, Err, ap, refl, ◌∙◌, rules, arith}
use Rattle.std.specs.Result.{result_err}
use Rattle.catalogue.specs.Format.{file_of}
use Rattle.catalogue.specs.Refusals.{transition_refusal}
use Rattle.catalogue.specs.First.{first_none}
use Rattle.catalogue.proofs.Before.{refused_next, passed_next}
use Rattle.catalogue.proofs.entry.Entry.check_body.Goals as goal

pub loop-stored-init : goal.loop-stored-init
loop-stored-init c = (refl, first_none (transition_refusal (file_of c.args.self.now.bytes.now) c.args.self.now.node))

pub returns-in_err-check_transition : goal.returns-in_err-check_transition
returns-in_err-check_transition c =
    let self = c.args.self.now in
    let l = c.loop-stored in
    let x = c.in_err-check_transition in
    let r : c.from_residual.result ≡ Err x.field-0.0 = search rules in
    ap result_err r
    ∙ refused_next self.bytes.now self.node c.args.body.now c.requires l.stored-index l.before (omega arith) l.invariant.0 l.invariant.1
    x.field-0.0 x.ensures.answer

pub loop-stored-preserved : goal.loop-stored-preserved
loop-stored-preserved c =
    let self = c.args.self.now in
    let l = c.loop-stored in
    let k = c.in_ok-check_transition in
    passed_next self.bytes.now self.node c.args.body.now c.requires l.stored-index l.before (omega arith) l.invariant.0 l.invariant.1
    k.field-0 k.ensures.answer k.ensures.byte
