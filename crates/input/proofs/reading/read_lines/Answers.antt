use Rattle.std.proofs.Common.{rules, sym, ap, ◌∙◌}
use Rattle.std.proofs.lemmas.List.Sorted.{answers_always}
use Rattle.std.proofs.lemmas.Result.{err_from_is_err_and}
use Rattle.input.specs.Asked.{act_line}
use Rattle.input.specs.Reading.{asked_of}
use Rattle.input.specs.Steps.{ends_line}
use Rattle.input.proofs.Lining.{next_piece, line_bad, line_good, bad_line, all_read}
use Rattle.input.proofs.reading.read_lines.Goals as goal

pub loop-line-preserved : goal.loop-line-preserved
loop-line-preserved c =
    let s = rw c.in-Some.is at c.next.ensures.steps in
    let f = s.1.2 ends_line (answers_always _ _ _ (λ f a r g h. search rules)) in
    let p = next_piece _ _ _ s.1.0 s.0 s.1.1 f.1 s.2 in
    let e = ap (act_line (asked_of c.loop-line.input)) (sym c.without_feed.ensures) ∙ c.in_ok-act_line.ensures.0 in
    (search rules, tt, line_good _ _ _ _ _ _ c.loop-line.invariant.2 p _ e c.in_ok-act_line.ensures.1)

pub returns-in_err-act_line : goal.returns-in_err-act_line
returns-in_err-act_line c =
    let s = rw c.in-Some.is at c.next.ensures.steps in
    let f = s.1.2 ends_line (answers_always _ _ _ (λ f a r g h. search rules)) in
    let p = next_piece _ _ _ s.1.0 s.0 s.1.1 f.1 s.2 in
    let w = ap (act_line (asked_of c.loop-line.input)) (sym c.without_feed.ensures) in
    let e = err_from_is_err_and c.from_residual.result c.from_residual.ensures.1 in
    rw (e.1, e.2) (bad_line c.args.text.now _ _ _ _ (λ o. line_bad _ _ _ _ _ _ c.loop-line.invariant.2 p (w ∙ o)) c.in_err-act_line.ensures)

pub returns : goal.returns
returns c = let s = rw c.in-None.is at c.next.ensures.steps in (all_read _ _ _ _ c.loop-line.invariant.2 s.0, c.loop-line.invariant.2.same)
