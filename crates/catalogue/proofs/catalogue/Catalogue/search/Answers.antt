use Rattle.std.proofs.Common.{◌+◌, ◌-◌, ◌/◌, ◌<◌, vec_items, sym, subst, ◌∙◌, Less, Equal, Greater, arith}
use Rattle.std.proofs.lemmas.Bool.Decides.{nat_tests}
use Rattle.catalogue.specs.Format.{file_of, byte}
use Rattle.catalogue.specs.ContractsLemmas.{accepted_formed}
use Rattle.catalogue.specs.Tables.{len_in, transition_at}
use Rattle.catalogue.proofs.Search.{ranked, lower_before, higher_after}
use Rattle.catalogue.proofs.catalogue.Catalogue.search.Goals as goal

pub returns-in-Equal : goal.returns-in-Equal
returns-in-Equal c =
    let file = file_of (vec_items c.args.self.now.bytes) in
    let m = c.loop-low.low + (c.loop-low.high - c.loop-low.low) / 2 in
    let l : m < len_in file c.args.node = omega (arith, c.loop-low.invariant.within, c.loop-low-test.true) in
    let held = c.body-body.ensures.held.byte_held m _ (omega (arith, l, c.body-body.ensures.len)) in
    (transition_at file c.args.node m, grind (arith, nat_tests), sym held ∙ ranked _ _ Equal (sym c.cmp.ensures ∙ c.in-Equal.is))

pub loop-low-preserved-in-Less : goal.loop-low-preserved-in-Less
loop-low-preserved-in-Less c =
    let file = file_of (vec_items c.args.self.now.bytes) in
    let w = accepted_formed file c.args.self.now.accepted in
    let i = c.loop-low.invariant in
    let m = c.loop-low.low + (c.loop-low.high - c.loop-low.low) / 2 in
    let l : m < len_in file c.args.node = omega (arith, i.within, c.loop-low-test.true) in
    let held = c.body-body.ensures.held.byte_held m _ (omega (arith, l, c.body-body.ensures.len)) in
    let k : byte file c.args.node m < c.args.byte = subst (λ x. x < c.args.byte) held (ranked _ _ Less (sym c.cmp.ensures ∙ c.in-Less.is)) in
    record {
      in_order = omega (arith, c.loop-low-test.true);
      within = i.within;
      lower = lower_before file w c.args.node m c.args.byte l k;
      higher = i.higher;
    }

pub loop-low-preserved : goal.loop-low-preserved
loop-low-preserved c =
    let file = file_of (vec_items c.args.self.now.bytes) in
    let w = accepted_formed file c.args.self.now.accepted in
    let i = c.loop-low.invariant in
    let m = c.loop-low.low + (c.loop-low.high - c.loop-low.low) / 2 in
    let l : m < len_in file c.args.node = omega (arith, i.within, c.loop-low-test.true) in
    let held = c.body-body.ensures.held.byte_held m _ (omega (arith, l, c.body-body.ensures.len)) in
    let k : c.args.byte < byte file c.args.node m = subst (λ x. c.args.byte < x) held (ranked _ _ Greater (sym c.cmp.ensures ∙ c.in-Greater.is)) in
    record {
      in_order = omega (arith, c.loop-low-test.true);
      within = omega (arith, l);
      lower = i.lower;
      higher = higher_after file w c.args.node m c.args.byte k;
    }
