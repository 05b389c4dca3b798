use Rattle.std.proofs.Common.{ap}
use Rattle.law.specs.Values.{Result}
use Rattle.law.proofs.Calls.{next_law, next_ends}
use Rattle.search.specs.Views.{view_of}
use Rattle.search.specs.Answers.{answer_of}
use Rattle.search.proofs.search.Search.next.Goals as goal

pub returns-clause-law : goal.returns-clause-law
returns-clause-law g c =
    let x = view_of c.args.self.now c.args.rows.now c.args.key_area.now in
    let z = view_of c.next_key.new.self c.next_key.new.rows c.next_key.new.key_area in
    next_law (g.G.Graph.table c.args.graph.now) (g.A.Automaton.table c.args.filter.now) (g.met.G.Graph.lawful c.args.graph.now) (g.met.A.Automaton.lawful c.args.filter.now)
    x (answer_of c.next_key.result) z (ap (λ (r : Result _). r.answer) c.next_key.ensures) (ap (λ (r : Result _). r.left) c.next_key.ensures)

pub returns-clause-ends : goal.returns-clause-ends
returns-clause-ends g c =
    let x = view_of c.args.self.now c.args.rows.now c.args.key_area.now in
    let z = view_of c.next_key.new.self c.next_key.new.rows c.next_key.new.key_area in
    next_ends (g.G.Graph.table c.args.graph.now) (g.A.Automaton.table c.args.filter.now) (g.met.G.Graph.lawful c.args.graph.now)
    x (answer_of c.next_key.result) z (ap (λ (r : Result _). r.answer) c.next_key.ensures) (ap (λ (r : Result _). r.left) c.next_key.ensures)
