use Rattle.std.proofs.Common.{◌≡◌, ap, ◌∙◌, subst, refl}
use Rattle.bound.specs.Value.{included, unbounded}
use Rattle.filter.specs.Filter.{Filter}
use Rattle.filter.specs.Tables.{complement_table, always_match_table}
use Rattle.graph.specs.Table.{Table}
use Rattle.law.specs.Values.{Search}
use Rattle.search.specs.Queries.{Bounds}
use Rattle.search.specs.Views.{search_of}
use Rattle.own_graph.specs.Exhausting.{IsExhausted}
use Rattle.own_graph.proofs.exhausting.complements_agree.Goals as goal

moved : {S : Type 0} (g : Table) (f h : Filter S) (s : Search) (b d : Bounds) → f ≡ h → b ≡ d → IsExhausted g f b.lower b.upper s → IsExhausted g h d.lower d.upper s
moved g f h s b d i e x = subst (λ (j : Filter _). IsExhausted g j d.lower d.upper s) i (subst (λ (z : Bounds). IsExhausted g f z.lower z.upper s) e x)

pub returns : goal.returns
returns g c n =
    let t = g.G.Graph.table c.args.graph.now in
    let f = g.A.Automaton.table c.args.filter.now in
    let d : Bounds = record { lower = unbounded; upper = included c.args.upper.now } in
    let above = λ (b : Bounds). record b { upper = included c.args.upper.now } in
    let m = moved t f f (search_of c.in_ok-matching.matching) _ d refl (c.le.ensures.answer ∙ ap above c.new.ensures) c.in_ok-matching.ensures in
    let o = moved t _ (complement_table f) (search_of c.in_ok-others.others) _ d
    (let e = c.complement-complement.ensures.holds in ap (λ x. complement_table (g.A.Automaton.table x.now)) e) (c.le-2.ensures.answer ∙ ap above c.new-2.ensures) c.in_ok-others.ensures in
    let u = moved t _ always_match_table (search_of c.in_ok-unfiltered.unfiltered) _ d refl (c.le-3.ensures.answer ∙ ap above c.new-3.ensures) c.in_ok-unfiltered.ensures in
    (c.complement_agrees.ensures.law.agrees t f (g.met.G.Graph.lawful c.args.graph.now) (g.met.A.Automaton.lawful c.args.filter.now) n
    d.lower d.upper m.0 o.0 m.1 o.1 u.0 u.1).0
