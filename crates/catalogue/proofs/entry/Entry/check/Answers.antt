use Rattle.std.proofs.Common.{◌≡◌, Err, Some, sym, ap, ◌∙◌, rules}
use Rattle.catalogue.specs.Format.{file_of}
use Rattle.catalogue.specs.Refusals.{first, or_else, transition_refusal, node_refusal}
use Rattle.catalogue.proofs.entry.Entry.check.Goals as goal

pub returns-in_err-check_body : goal.returns-in_err-check_body
returns-in_err-check_body c =
    let file = file_of c.args.self.now.bytes.now in
    let n = c.args.self.now.node in
    let x = c.in_err-check_body.field-0.0 in
    let entry = c.in_ok-body.ensures in
    let r : c.from_residual-in_err-check_body.result ≡ Err x = search rules in
    let h : node_refusal file n ≡ Some x =
    ap (λ y. or_else y (first (transition_refusal file n) (file.len n))) entry.0
    ∙ ap (λ k. first (transition_refusal file n) k) (sym entry.3.0)
    ∙ sym c.in_err-check_body.ensures in
    rw r h
