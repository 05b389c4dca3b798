use Rattle.std.proofs.Common.{sym, ap, subst, arith}
use Rattle.std.proofs.lemmas.Result.{err_from_is_err_and}
use Rattle.input.specs.Reading.{asked_of}
use Rattle.account.specs.Steps.{Prints}
use Rattle.account.proofs.OpenedLists.{list_accepted, list_refused}
use Rattle.account.proofs.Tables.{searches}
use Rattle.account.proofs.push_account.Goals as goal

pub returns-in_err-list : goal.returns-in_err-list
returns-in_err-list c =
    let e = err_from_is_err_and c.from_residual-in_err-list.result c.from_residual-in_err-list.ensures.1 in
    rw (e.1, e.2) (list_refused c.args.input.now c.in_ok-text.field-0 c.in_ok-text.ensures.0 _ c.in_err-list.ensures c.args.out.now.items)

pub returns : goal.returns
returns c =
    let i = c.in_ok-text.field-0 in
    let s = searches i c.in_ok-list.list c.in_ok-graph.graph c.filter_of-filter.result _ _ (ap (λ b. b.lower) c.query_of-query.ensures) (ap (λ b. b.upper) c.query_of-query.ensures)
    c.in_ok-list.ensures.1 c.in_ok-graph.ensures.0 c.in_ok-graph.ensures.1 c.filter_of-filter.ensures.prefix c.filter_of-filter.ensures.subsequence (grind arith) in
    subst (λ lines. Prints lines c.push_lines.result c.args.out.now.items c.push_lines.new.out.items)
    (sym (list_accepted c.args.input.now i c.in_ok-text.ensures.0 c.in_ok-list.ensures.0)) (c.push_lines.ensures (asked_of i) s)
