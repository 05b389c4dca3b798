use Rattle.std.proofs.Common.{◌≡◌, ◌++◌, length, Some, None, vec_items, Option, refl, sym, ap, ◌∙◌, arith}
use Rattle.std.proofs.lemmas.List.{length-take-le}
use Rattle.std.proofs.lemmas.Result.{err_from_is_err_and}
use Rattle.search.specs.Queries.{bounds_of}
use Rattle.search.specs.Answers.{item_of}
use Rattle.account.specs.Tables.{graph_table, filter_table}
use Rattle.account.proofs.Going.{begun, key_inside, goes, counts, ends, refused_by_16, stops}
use Rattle.account.proofs.Openings.{open_fits, refused_by_14, open_refused, refused_lines, entry_lines}
use Rattle.account.proofs.Tables.{lawful_graph, lawful_filter}
use Rattle.account.specs.Account.{refused_line}
use Rattle.account.proofs.listing.push_lines.Goals as goal

pub returns-in_err-search : goal.returns-in_err-search
returns-in_err-search c = λ a s.
    let l = c.rows_for-rows.ensures in
    let e = err_from_is_err_and c.from_residual.result c.from_residual.ensures.1 in
    let long = open_refused _ _ _ _ a s (length c.open.new.rows) (length c.open.new.key_area) _ (omega arith) (omega arith) c.in_err-search.ensures.law in
    let by_14 = refused_by_14 _ _ _ _ _ _ _ c.in_err-search.ensures.answer (omega arith) in
    rw (e.1, e.2)
    (ap (λ n. vec_items c.args.out.now ++ refused_line n) by_14 ∙ ap (λ x. vec_items c.args.out.now ++ x) (refused_lines _ _ _ _ a s long))

pub loop-length-init : goal.loop-length-init
loop-length-init c =
    let l = c.rows_for-rows.ensures in
    begun (lawful_graph c.args.graph.now) (lawful_filter c.args.filter.now) (vec_items c.args.out.now)
    _ _ _ c.in_ok-search.ensures.law (omega arith) (omega arith)

pub returns-in_err-length : goal.returns-in_err-length
returns-in_err-length c = λ a s.
    let l = c.rows_for-rows.ensures in
    let e = err_from_is_err_and c.from_residual-in_err-length.result c.from_residual-in_err-length.ensures.1 in
    let b = bounds_of c.args.query in
    let fits = open_fits (graph_table c.args.graph.now) (filter_table c.args.filter.now) b.lower b.upper _ _ _ c.in_ok-search.ensures.answer in
    let by_16 = refused_by_16 c.loop-length.invariant c.in_err-length.ensures.law s _ refl in
    rw (e.1, e.2)
    (ap (λ n. vec_items c.loop-length.out ++ refused_line n) by_16
    ∙ stops c.loop-length.invariant c.in_err-length.ensures.law s _ refl
    ∙ ap (λ x. vec_items c.args.out.now ++ x) (entry_lines _ _ _ _ a s (omega arith)))

pub slice_bounds-key_area-end : goal.slice_bounds-key_area-end
slice_bounds-key_area-end c = key_inside c.loop-length.invariant c.in_ok-length.ensures.law (ap item_of c.in-Some.is)

pub slice_bounds-push_key_line-end : goal.slice_bounds-push_key_line-end
slice_bounds-push_key_line-end c =
    let h = key_inside c.loop-length.invariant c.in_ok-length.ensures.law (ap item_of c.in-Some.is) in
    sym (length-take-le c.in-Some.length c.next.new.key_area h)

pub loop-length-smaller : goal.loop-length-smaller
loop-length-smaller c =
    let (d, l) = counts c.loop-length.invariant c.in_ok-length.ensures.law (ap item_of c.in-Some.is) (lawful_graph c.args.graph.now) in
    omega arith

pub loop-length-preserved : goal.loop-length-preserved
loop-length-preserved c =
    let r = c.loop-length.invariant.rows in
    let b = c.loop-length.invariant.bytes in
    goes c.loop-length.invariant c.in_ok-length.ensures.law (ap item_of c.in-Some.is)
    _ (grind arith) c.in_ok-push_key_line.ensures (omega arith) (omega arith)

none_of : {X : Type 0} (o : Option X) → ((x : X) → o ≡ Some x → ⊥) → o ≡ None
none_of None h = refl
none_of (Some x) h = absurd (h x refl)

pub returns : goal.returns
returns c = λ a s.
    let l = c.rows_for-rows.ensures in
    let b = bounds_of c.args.query in
    let fits = open_fits (graph_table c.args.graph.now) (filter_table c.args.filter.now) b.lower b.upper _ _ _ c.in_ok-search.ensures.answer in
    ends c.loop-length.invariant c.in_ok-length.ensures.law s
    (ap item_of (none_of c.in_ok-length.field-0 c.in_default.not-Some)) _ c.close.ensures.law _ c.in_ok-push_end_line.ensures
    ∙ ap (λ x. vec_items c.args.out.now ++ x) (entry_lines _ _ _ _ a s (omega arith))
