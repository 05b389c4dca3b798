use Rattle.std.proofs.Common.{rules, ◌≡◌, Err}
use Rattle.search.specs.Views.{search_of, view_of}
use Rattle.search.proofs.Nexts.{next_too_short, next_stops, next_walks, looked_fits}
use Rattle.search.proofs.search.Search.next_key.Goals as goal

pub returns-in_err-begin : goal.returns-in_err-begin
returns-in_err-begin g c =
    let t = g.G.Graph.table c.args.graph.now in
    let f = g.A.Automaton.table c.args.filter.now in
    let x = view_of c.args.self.now c.args.rows.now c.args.key_area.now in
    let r : c.from_residual.result ≡ Err c.in_err-begin.field-0.0 = search rules in
    let short = c.in_err-begin.ensures.answer in
    rw r (next_too_short t f x (search_of c.begin.new.self) _ short.0 c.begin.ensures.left short.1)

pub returns-in_err-item : goal.returns-in_err-item
returns-in_err-item g c =
    let t = g.G.Graph.table c.args.graph.now in
    let f = g.A.Automaton.table c.args.filter.now in
    let x = view_of c.args.self.now c.args.rows.now c.args.key_area.now in
    let z = view_of c.look_at_waiting.new.self c.args.rows.now c.args.key_area.now in
    let r : c.from_residual-in_err-item.result ≡ Err c.in_err-item.field-0.0 = search rules in
    rw r (next_stops t f x z (search_of c.begin.new.self) _ c.in_ok-begin.ensures.answer c.begin.ensures.left (c.in_err-item.ensures c.args.rows.now c.args.key_area.now))

pub returns-in-Done : goal.returns-in-Done
returns-in-Done g c =
    let t = g.G.Graph.table c.args.graph.now in
    let f = g.A.Automaton.table c.args.filter.now in
    let x = view_of c.args.self.now c.args.rows.now c.args.key_area.now in
    let z = view_of c.look_at_waiting.new.self c.args.rows.now c.args.key_area.now in
    let h = rw c.in-Done.is at (c.in_ok-item.ensures c.args.rows.now c.args.key_area.now) in
    next_stops t f x z (search_of c.begin.new.self) _ c.in_ok-begin.ensures.answer c.begin.ensures.left h

pub walk-requires : goal.walk-requires
walk-requires g c =
    let t = g.G.Graph.table c.args.graph.now in
    let f = g.A.Automaton.table c.args.filter.now in
    let x = view_of c.args.self.now c.args.rows.now c.args.key_area.now in
    let z = view_of c.look_at_waiting.new.self c.args.rows.now c.args.key_area.now in
    let h = rw c.in_default.is at (c.in_ok-item.ensures c.args.rows.now c.args.key_area.now) in
    looked_fits t f x z (search_of c.begin.new.self) c.in_ok-begin.ensures.answer c.begin.ensures.left h

pub returns : goal.returns
returns g c =
    let t = g.G.Graph.table c.args.graph.now in
    let f = g.A.Automaton.table c.args.filter.now in
    let x = view_of c.args.self.now c.args.rows.now c.args.key_area.now in
    let z = view_of c.look_at_waiting.new.self c.args.rows.now c.args.key_area.now in
    let h = rw c.in_default.is at (c.in_ok-item.ensures c.args.rows.now c.args.key_area.now) in
    next_walks t f x z (search_of c.begin.new.self) _ c.in_ok-begin.ensures.answer c.begin.ensures.left h c.walk.ensures
