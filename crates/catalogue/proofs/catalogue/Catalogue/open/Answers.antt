use Rattle.std.proofs.Common.{vec_items, None, sym, ap, subst, ◌∙◌, refl, rules}
use Rattle.std.specs.Result.{result_err}
use Rattle.catalogue.specs.Format.{file_of}
use Rattle.catalogue.specs.Refusals.{refusal_of}
use Rattle.catalogue.specs.WellFormed.{WellFormed}
use Rattle.catalogue.specs.Tables.{table_of, AnswersBytes}
use Rattle.catalogue.specs.AnswersBytes.{answers_bytes}
use Rattle.catalogue.specs.ContractsLemmas.{opened_is_well_formed, refusal_is_sentence, error_is_refusal}
use Rattle.catalogue.proofs.catalogue.Catalogue.open.Goals as goal

pub returns-in_err-check-clause-accepted : goal.returns-in_err-check-clause-accepted
returns-in_err-check-clause-accepted c =
    let bs = vec_items c.args.bytes in
    let r = c.from_residual.result in
    opened_is_well_formed (file_of bs) r
    (error_is_refusal r c.in_err-check.field-0.0 bs c.as_slice.result.now (search rules) c.in_err-check.ensures.answer c.as_slice.ensures.value)

pub returns-in_err-check-clause-refused : goal.returns-in_err-check-clause-refused
returns-in_err-check-clause-refused c =
    let bs = vec_items c.args.bytes in
    let r = c.from_residual.result in
    refusal_is_sentence (file_of bs) (result_err r)
    (error_is_refusal r c.in_err-check.field-0.0 bs c.as_slice.result.now (search rules) c.in_err-check.ensures.answer c.as_slice.ensures.value)

pub returns-clause-refused : goal.returns-clause-refused
returns-clause-refused c =
    refusal_is_sentence (file_of (vec_items c.args.bytes)) None (c.in_ok-check.ensures.answer ∙ ap (λ b. refusal_of (file_of b)) c.as_slice.ensures.value)

pub returns-clause-answers_bytes : goal.returns-clause-answers_bytes
returns-clause-answers_bytes c =
    let bs = vec_items c.args.bytes in
    subst (λ b. AnswersBytes bs (table_of (file_of b))) (sym c.accepted.ensures)
    (answers_bytes bs (subst (λ b. WellFormed (file_of b)) c.as_slice.ensures.value (c.in_ok-check.ensures.accepted.0 refl)))
