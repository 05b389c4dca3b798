use Rattle.std.proofs.Common.{◌≡◌, ap, ◌∙◌, refl, Ok, true, false, Option, is_some, Bool, not, subst, arith, []}
use Rattle.bound.specs.Value.{excluded, unbounded}
use Rattle.law.specs.History.{History}
use Rattle.search.specs.Queries.{Bounds}
use Rattle.search.specs.Views.{view_of, search_of}
use Rattle.search.specs.Answers.{answer_of, part_by}
use Rattle.own_graph.specs.Exhausting.{IsExhausted}
use Rattle.own_graph.proofs.Finished.{no_key, first_key}
use Rattle.own_graph.proofs.exhausting.count_by_two.Goals as goal

not_none : {A : Type 0} (o : Option A) (r : Bool) → is_some o ≡ not r → r ≡ false → is_some o ≡ true
not_none o r d e = d ∙ ap not e

none_there : {A : Type 0} (o : Option A) (r : Bool) → is_some o ≡ not r → r ≡ true → is_some o ≡ false
none_there o r d e = d ∙ ap not e

pub returns-then-is_none : goal.returns-then-is_none
returns-then-is_none g c fs l =
    let t = g.G.Graph.table c.args.graph.now in
    let f = g.A.Automaton.table c.args.filter.now in
    let x = view_of c.in_ok-first.first c.opened.new.rows c.opened.new.key_area in
    let z = view_of c.next.new.self c.next.new.rows c.next.new.key_area in
    let h : History t f unbounded unbounded x [] = subst (λ (b : Bounds). History t f b.lower b.upper x []) c.new.ensures c.in_ok-first.ensures.history in
    no_key t f (g.met.G.Graph.lawful c.args.graph.now) unbounded unbounded x (answer_of (Ok c.in_ok-next.field-0)) z c.in_ok-next.ensures.law h
    c.in_ok-next.field-0 (none_there _ c.is_none.result c.is_none.ensures c.if-is_none.true) refl fs l

pub returns : goal.returns
returns g c fs l =
    let t = g.G.Graph.table c.args.graph.now in
    let f = g.A.Automaton.table c.args.filter.now in
    let x = view_of c.in_ok-first.first c.opened.new.rows c.opened.new.key_area in
    let z = view_of c.next.new.self c.next.new.rows c.next.new.key_area in
    let h : History t f unbounded unbounded x [] = subst (λ (b : Bounds). History t f b.lower b.upper x []) c.new.ensures c.in_ok-first.ensures.history in
    let k = c.in_ok-key.key.now in
    let x₁ : IsExhausted t f (excluded k) unbounded (search_of c.in_ok-second.second) =
    subst (λ (b : Bounds). IsExhausted t f b.lower b.upper (search_of c.in_ok-second.second)) (c.gt.ensures.answer ∙ ap (λ (b : Bounds). record b { lower = excluded k }) c.new-2.ensures) c.in_ok-second.ensures in
    let e = first_key t f (g.met.G.Graph.lawful c.args.graph.now) (g.met.A.Automaton.lawful c.args.filter.now) x (answer_of (Ok c.in_ok-next.field-0)) z c.in_ok-next.ensures.law
    h c.in_ok-next.field-0 (not_none _ c.is_none.result c.is_none.ensures c.if-is_none.false) refl (part_by (λ k. k.now) (Ok c.in_ok-key.key)) c.in_ok-key.ensures.law k refl (search_of c.in_ok-second.second) x₁
    c.close-2.result c.close-2.ensures.law c.close.result c.close.ensures.law fs l in
    let p = c.from.ensures in
    let q = c.from-2.ensures in
    omega arith
