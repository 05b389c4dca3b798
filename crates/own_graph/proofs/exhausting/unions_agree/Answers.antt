use Rattle.std.proofs.Common.{◌≡◌, ap, ◌∙◌, subst, refl, ap₂}
use Rattle.bound.specs.Value.{excluded, unbounded}
use Rattle.filter.specs.Filter.{Filter}
use Rattle.filter.specs.Tables.{union_table, intersection_table}
use Rattle.graph.specs.Table.{Table}
use Rattle.law.specs.Values.{Search}
use Rattle.search.specs.Queries.{Bounds}
use Rattle.search.specs.Views.{search_of}
use Rattle.own_graph.specs.Exhausting.{IsExhausted}
use Rattle.own_graph.proofs.exhausting.unions_agree.Goals as goal

moved : {S : Type 0} (g : Table) (f h : Filter S) (s : Search) (b d : Bounds) → f ≡ h → b ≡ d → IsExhausted g f b.lower b.upper s → IsExhausted g h d.lower d.upper s
moved g f h s b d i e x = subst (λ (j : Filter _). IsExhausted g j d.lower d.upper s) i (subst (λ (z : Bounds). IsExhausted g f z.lower z.upper s) e x)

pub returns : goal.returns
returns g c n m =
    let t = g.G.Graph.table c.args.graph.now in
    let f = g.A.Automaton.table c.args.one.now in
    let h = g.B.Automaton.table c.args.other.now in
    let d : Bounds = record { lower = excluded c.args.lower.now; upper = unbounded } in
    let below = λ (b : Bounds). record b { lower = excluded c.args.lower.now } in
    let l = moved t f f (search_of c.in_ok-left.left) _ d refl (c.gt.ensures.answer ∙ ap below c.new.ensures) c.in_ok-left.ensures in
    let r = moved t h h (search_of c.in_ok-right.right) _ d refl (c.gt-2.ensures.answer ∙ ap below c.new-2.ensures) c.in_ok-right.ensures in
    let u = moved t _ (union_table f h) (search_of c.in_ok-union.union) _ d
    (let e = c.union-either.ensures.holds in ap₂ (λ x y. union_table (g.A.Automaton.table x.now) (g.B.Automaton.table y.now)) e.0 e.1) (c.gt-3.ensures.answer ∙ ap below c.new-3.ensures) c.in_ok-union.ensures in
    let i = moved t _ (intersection_table f h) (search_of c.in_ok-intersection.intersection) _ d
    (let e = c.intersection-both.ensures.holds in ap₂ (λ x y. intersection_table (g.A.Automaton.table x.now) (g.B.Automaton.table y.now)) e.0 e.1) (c.gt-4.ensures.answer ∙ ap below c.new-4.ensures) c.in_ok-intersection.ensures in
    (c.union_agrees.ensures.law.agrees t f h (g.met.G.Graph.lawful c.args.graph.now) (g.met.A.Automaton.lawful c.args.one.now) (g.met.B.Automaton.lawful c.args.other.now) n m
    d.lower d.upper u.0 i.0 u.1 i.1 l.0 l.1 r.0 r.1).0
