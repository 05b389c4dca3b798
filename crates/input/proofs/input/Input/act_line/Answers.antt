use Rattle.std.proofs.Common.{Some, sym, refl, ap, ◌∙◌}
use Rattle.names.specs.Names.{names_of}
use Rattle.input.specs.Reading.{asked_of}
use Rattle.std.proofs.lemmas.Bool.{le-leb}
use Rattle.input.proofs.Lining.{rest_stands, inside_after, named, with_names, names_push}
use Rattle.input.proofs.input.Input.act_line.Goals as goal

pub invariant_of-self-in-Name : goal.invariant_of-self-in-Name
invariant_of-self-in-Name c =
    let k = rw c.in_ok-first.ensures.ok_part at c.split_first.ensures.cases in
    let s = rest_stands c.args.self.now.text.now c.args.place c.args.line.now c.in_ok-first.first.now c.in_ok-first.rest.now k.0 c.requires in
    record {
      small = c.args.self.now.small;
      inside = inside_after c.args.self.now.text.now _ _ _ _ c.push.ensures.items (le-leb _ _ s.inside) c.args.self.now.inside;
    }

pub returns-in_ok-push-in-Name : goal.returns-in_ok-push-in-Name
returns-in_ok-push-in-Name c =
    let k = rw c.in_ok-first.ensures.ok_part at c.split_first.ensures.cases in
    let s = rest_stands c.args.self.now.text.now c.args.place c.args.line.now c.in_ok-first.first.now c.in_ok-first.rest.now k.0 c.requires in
    let q = named _ _ c.in_ok-try_from.ensures c.in-Name.is in
    let n = ap (names_of c.args.self.now.text.now) c.in_ok-push-in-Name.ensures.items ∙ names_push _ _ _ _ s.same in
    (rw (k.0, q) (ap (λ ns. Some (with_names ns (asked_of c.args.self.now))) (sym n)), refl)
