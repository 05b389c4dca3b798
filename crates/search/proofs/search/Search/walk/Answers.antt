use Rattle.std.proofs.Common.{rules, ◌≡◌, Err}
use Rattle.search.specs.Views.{view_of}
use Rattle.search.proofs.Walks.{still_fits, walk_goes_on, fewer_looks, walk_stops}
use Rattle.search.proofs.search.Search.walk.Goals as goal

pub returns-in_err-item : goal.returns-in_err-item
returns-in_err-item g c =
    let t = g.G.Graph.table c.args.graph.now in
    let f = g.A.Automaton.table c.args.filter.now in
    let x = view_of c.loop-item.self c.loop-item.rows c.loop-item.key_area in
    let y = view_of c.look.new.self c.look.new.rows c.look.new.key_area in
    let e : c.from_residual.result ≡ Err c.in_err-item.field-0.0 = search rules in
    rw e (walk_stops t f (g.met.G.Graph.lawful c.args.graph.now) x y _ _ c.in_err-item.ensures c.loop-item.invariant.same)

pub returns-in-Done : goal.returns-in-Done
returns-in-Done g c =
    let t = g.G.Graph.table c.args.graph.now in
    let f = g.A.Automaton.table c.args.filter.now in
    let x = view_of c.loop-item.self c.loop-item.rows c.loop-item.key_area in
    let y = view_of c.look.new.self c.look.new.rows c.look.new.key_area in
    walk_stops t f (g.met.G.Graph.lawful c.args.graph.now) x y _ _ (rw c.in-Done.is at c.in_ok-item.ensures) c.loop-item.invariant.same

pub loop-item-smaller : goal.loop-item-smaller
loop-item-smaller g c =
    let t = g.G.Graph.table c.args.graph.now in
    let f = g.A.Automaton.table c.args.filter.now in
    let x = view_of c.loop-item.self c.loop-item.rows c.loop-item.key_area in
    let y = view_of c.look.new.self c.look.new.rows c.look.new.key_area in
    fewer_looks t f (g.met.G.Graph.lawful c.args.graph.now) x y (rw c.in_default.is at c.in_ok-item.ensures)

pub loop-item-preserved : goal.loop-item-preserved
loop-item-preserved g c =
    let t = g.G.Graph.table c.args.graph.now in
    let f = g.A.Automaton.table c.args.filter.now in
    let x = view_of c.loop-item.self c.loop-item.rows c.loop-item.key_area in
    let y = view_of c.look.new.self c.look.new.rows c.look.new.key_area in
    let h = rw c.in_default.is at c.in_ok-item.ensures in
    record {
      fits = still_fits t f x y h c.loop-item.invariant.fits;
      same = walk_goes_on t f (g.met.G.Graph.lawful c.args.graph.now) x y _ h c.loop-item.invariant.same;
    }
