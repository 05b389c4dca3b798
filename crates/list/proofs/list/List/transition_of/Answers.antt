use Rattle.std.proofs.Common.{◌+◌, ◌*◌, sym, ap, ap₂, ◌∙◌, arith}
use Rattle.graph.specs.declared.Transition.{Transition}
use Rattle.prefixes.specs.Walks.{byte_at}
use Rattle.prefixes.proofs.Groups.{group_short, group_byte, group_target}
use Rattle.list.specs.Opened.{names_in}
use Rattle.list.specs.Held.{names_rise}
use Rattle.list.proofs.Placed.{group_within, group_longer}
use Rattle.list.proofs.list.List.transition_of.Goals as goal

pub byte-requires-clause-there : goal.byte-requires-clause-there
byte-requires-clause-there c = group_within c.args.self.now c.args.node c.requires.node c.args.group c.requires.stands

pub byte-requires-clause-within : goal.byte-requires-clause-within
byte-requires-clause-within c =
    let e = c.from-len.ensures.1 in
    let h = group_longer c.args.self.now c.args.node c.requires.node c.args.group c.requires.stands in
    omega arith

pub longer-requires : goal.longer-requires
longer-requires c =
    let l = c.args.self.now in
    let e = c.from-len.ensures.1 in
    let h = (group_short (names_in l) (names_rise l) c.args.node c.requires.node c.args.group.position c.args.group.lowest c.requires.stands).1 in
    omega arith

pub returns : goal.returns
returns c =
    let l = c.args.self.now in
    let g = c.args.group in
    let e = c.from-len.ensures.1 in
    ap₂ {C = Transition} (λ y z. record { byte = y; output = 0; target = z })
    (c.byte.ensures ∙ ap (byte_at (names_in l) g.lowest) e ∙ sym (group_byte (names_in l) (names_rise l) c.args.node c.requires.node g.position g.lowest c.requires.stands))
    (c.into.ensures ∙ ap₂ (λ i k. 256 * i + k) c.longer.ensures.name (c.longer.ensures.len ∙ ap (λ k. k + 1) e)
    ∙ sym (group_target (names_in l) (names_rise l) c.args.node c.requires.node g.position g.lowest c.requires.stands))
