use Rattle.std.proofs.Common.{◌≡◌, rules, suc, ◌+◌, false, ltb}
use Rattle.law.specs.Values.{most}
use Rattle.search.proofs.Seeks.{found_goes_on}
use Rattle.search.proofs.opening.advance.Goals as goal

pub returns-clause-answer : goal.returns-clause-answer
returns-clause-answer g c = λ keep upper w.
    let t = g.G.Graph.table c.args.graph.now in
    let f = g.A.Automaton.table c.args.filter.now in
    let x = c.in-Some.found in
    let d = c.args.stack.now.depth in
    let at_most : ltb most (c.args.row.total + x.transition.output) ≡ false = search rules in
    let total : c.in_ok-total.total ≡ c.args.row.total + x.transition.output = search rules in
    let depth : c.push-2.new.self.depth ≡ suc d = search rules in
    let e = found_goes_on t f keep upper w d c.args.byte c.args.row c.args.rows.now c.args.key_area.now x c.in-Some.ensures at_most in
    rw (depth, total, c.accept.ensures, c.push-2.ensures.rows) e
