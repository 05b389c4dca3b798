use Rattle.std.proofs.Common.{ap}
use Rattle.law.specs.Open.{Opening}
use Rattle.law.proofs.Calls.{open_law}
use Rattle.search.specs.Queries.{bounds_of, outcome_of}
use Rattle.search.proofs.query.Query.open.Goals as goal

pub returns-clause-law : goal.returns-clause-law
returns-clause-law g c =
    let b = bounds_of c.args.self in
    let e = c.open_search.ensures.answer in
    open_law (g.G.Graph.table c.args.graph.now) (g.A.Automaton.table c.args.filter.now) (g.met.G.Graph.lawful c.args.graph.now) b.lower b.upper c.args.rows.now c.args.key_area.now
    (outcome_of c.open_search.result) c.open_search.new.rows c.open_search.new.key_area
    (ap (λ (o : Opening _). o.outcome) e) (ap (λ (o : Opening _). o.rows) e) (ap (λ (o : Opening _). o.key_area) e)
