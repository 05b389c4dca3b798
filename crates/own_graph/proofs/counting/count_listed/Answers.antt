use Rattle.std.proofs.Common.{Ok, Err, refl, sym, ◌∙◌, arith}
use Rattle.std.proofs.lemmas.Result.{err_from_is_err_and}
use Rattle.search.specs.Numbers.{number_of}
use Rattle.search.specs.Queries.{bounds_of}
use Rattle.search.specs.Views.{view_of}
use Rattle.search.specs.Answers.{answer_of}
use Rattle.own_graph.proofs.Counted.{starts, not_started, went_on, rises, lists, ran, cannot, broke_off}
use Rattle.own_graph.proofs.counting.count_listed.Goals as goal

pub keys-init : goal.keys-init
keys-init g c =
    let b = bounds_of c.args.query in
    let o = c.in-Ok.ensures in
    starts (g.G.Graph.table c.args.graph.now) (g.A.Automaton.table c.args.filter.now) b.lower b.upper c.args.rows.now c.args.key_area.now
    (g.met.G.Graph.lawful c.args.graph.now) c.open.new.rows c.open.new.key_area o.rows_left o.key_area_left _ o.answer (omega arith) (omega arith) o.law

pub keys-smaller : goal.keys-smaller
keys-smaller g c =
    let b = bounds_of c.args.query in
    let x = view_of c.keys.search c.keys.rows c.keys.key_area in
    let z = view_of c.next.new.self c.next.new.rows c.next.new.key_area in
    let item = c.in_ok-next.field-0 in
    let o = rises (g.G.Graph.table c.args.graph.now) (g.A.Automaton.table c.args.filter.now) b.lower b.upper c.args.rows.now c.args.key_area.now
    x c.keys.invariant (answer_of (Ok item)) z c.in_ok-next.ensures.law
    (g.met.G.Graph.lawful c.args.graph.now) item (sym c.is_some.ensures ∙ c.if-is_some.true) refl (omega arith) (omega arith) in
    let p = o.0 in
    let q = o.1 in
    omega arith

pub keys-preserved : goal.keys-preserved
keys-preserved g c =
    let b = bounds_of c.args.query in
    let x = view_of c.keys.search c.keys.rows c.keys.key_area in
    let z = view_of c.next.new.self c.next.new.rows c.next.new.key_area in
    let item = c.in_ok-next.field-0 in
    let n = c.in_ok-next.ensures in
    went_on (g.G.Graph.table c.args.graph.now) (g.A.Automaton.table c.args.filter.now) b.lower b.upper c.args.rows.now c.args.key_area.now
    x c.keys.invariant (answer_of (Ok item)) z n.law
    (g.met.G.Graph.lawful c.args.graph.now) item (sym c.is_some.ensures ∙ c.if-is_some.true) refl n.answer n.left (omega arith) (omega arith)

pub returns-in-Err-clause-run : goal.returns-in-Err-clause-run
returns-in-Err-clause-run g c =
    let b = bounds_of c.args.query in
    let o = c.in-Err.ensures in
    not_started (g.G.Graph.table c.args.graph.now) (g.A.Automaton.table c.args.filter.now) b.lower b.upper c.args.rows.now c.args.key_area.now
    c.open.new.rows c.open.new.key_area o.rows_left o.key_area_left _ o.answer

pub returns-in_err-next-clause-refused : goal.returns-in_err-next-clause-refused
returns-in_err-next-clause-refused g c =
    let b = bounds_of c.args.query in
    let x = view_of c.keys.search c.keys.rows c.keys.key_area in
    let z = view_of c.next.new.self c.next.new.rows c.next.new.key_area in
    let refusal = c.in_err-next.field-0.0 in
    let e = err_from_is_err_and c.from_residual.result c.from_residual.ensures.1 in
    rw (e.1, e.2) (cannot (g.G.Graph.table c.args.graph.now) (g.A.Automaton.table c.args.filter.now) b.lower b.upper c.args.rows.now c.args.key_area.now
    x c.keys.invariant (answer_of (Err refusal)) z c.in_err-next.ensures.law (g.met.G.Graph.lawful c.args.graph.now) (number_of refusal) refl)

pub returns-in_err-next-clause-run : goal.returns-in_err-next-clause-run
returns-in_err-next-clause-run g c =
    let b = bounds_of c.args.query in
    let x = view_of c.keys.search c.keys.rows c.keys.key_area in
    let z = view_of c.next.new.self c.next.new.rows c.next.new.key_area in
    let refusal = c.in_err-next.field-0.0 in
    let n = c.in_err-next.ensures in
    let e = err_from_is_err_and c.from_residual.result c.from_residual.ensures.1 in
    rw (e.1, e.2) (broke_off (g.G.Graph.table c.args.graph.now) (g.A.Automaton.table c.args.filter.now) b.lower b.upper c.args.rows.now c.args.key_area.now
    x c.keys.invariant (answer_of (Err refusal)) z n.law (number_of refusal) refl n.answer n.left)

pub returns-clause-run : goal.returns-clause-run
returns-clause-run g c =
    let b = bounds_of c.args.query in
    let x = view_of c.keys.search c.keys.rows c.keys.key_area in
    let z = view_of c.next.new.self c.next.new.rows c.next.new.key_area in
    let item = c.in_ok-next.field-0 in
    let n = c.in_ok-next.ensures in
    ran (g.G.Graph.table c.args.graph.now) (g.A.Automaton.table c.args.filter.now) b.lower b.upper c.args.rows.now c.args.key_area.now
    x c.keys.invariant (answer_of (Ok item)) z n.law item (sym c.is_some.ensures ∙ c.if-is_some.false) refl n.answer n.left _ c.close.ensures.answer

pub returns-clause-counted : goal.returns-clause-counted
returns-clause-counted g c =
    let b = bounds_of c.args.query in
    let x = view_of c.keys.search c.keys.rows c.keys.key_area in
    let z = view_of c.next.new.self c.next.new.rows c.next.new.key_area in
    let item = c.in_ok-next.field-0 in
    lists (g.G.Graph.table c.args.graph.now) (g.A.Automaton.table c.args.filter.now) b.lower b.upper c.args.rows.now c.args.key_area.now
    x c.keys.invariant (answer_of (Ok item)) z c.in_ok-next.ensures.law (g.met.G.Graph.lawful c.args.graph.now) (g.met.A.Automaton.lawful c.args.filter.now)
    item (sym c.is_some.ensures ∙ c.if-is_some.false) refl _ c.close.ensures.law
