use Rattle.std.proofs.Common.{Ok, refl, sym, ◌∙◌, arith}
use Rattle.search.specs.Queries.{bounds_of}
use Rattle.search.specs.Views.{view_of}
use Rattle.search.specs.Answers.{answer_of}
use Rattle.own_graph.proofs.Finished.{handed}
use Rattle.own_graph.proofs.exhausting.exhaust.Goals as goal

pub keys-smaller : goal.keys-smaller
keys-smaller g c =
    let t = g.G.Graph.table c.args.graph.now in
    let f = g.A.Automaton.table c.args.filter.now in
    let b = bounds_of c.args.query in
    let x = view_of c.keys.search c.keys.rows c.keys.key_area in
    let z = view_of c.next.new.self c.next.new.rows c.next.new.key_area in
    let item = c.in_ok-next.field-0 in
    let h = c.keys.invariant in
    let o = handed t f b.lower b.upper x (answer_of (Ok item)) z c.in_ok-next.ensures.law h.0 h.1
    (g.met.G.Graph.lawful c.args.graph.now) item (sym c.is_some.ensures ∙ c.if-is_some.true) refl in
    let p = o.1 in
    let q = o.2 in
    omega arith

pub keys-preserved : goal.keys-preserved
keys-preserved g c =
    let t = g.G.Graph.table c.args.graph.now in
    let f = g.A.Automaton.table c.args.filter.now in
    let b = bounds_of c.args.query in
    let x = view_of c.keys.search c.keys.rows c.keys.key_area in
    let z = view_of c.next.new.self c.next.new.rows c.next.new.key_area in
    let item = c.in_ok-next.field-0 in
    let h = c.keys.invariant in
    (handed t f b.lower b.upper x (answer_of (Ok item)) z c.in_ok-next.ensures.law h.0 h.1
    (g.met.G.Graph.lawful c.args.graph.now) item (sym c.is_some.ensures ∙ c.if-is_some.true) refl).0
