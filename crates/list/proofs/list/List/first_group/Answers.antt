use Rattle.std.proofs.Common.{ap, sym, ◌∙◌}
use Rattle.list.specs.Groups.{placed}
use Rattle.list.specs.Opened.{names_in}
use Rattle.list.proofs.Placed.{node_within, first_behind}
use Rattle.list.proofs.list.List.first_group.Goals as goal

pub is_whole-requires : goal.is_whole-requires
is_whole-requires c = node_within c.args.self.now c.args.node c.requires

pub returns-in_err-lowest : goal.returns-in_err-lowest
returns-in_err-lowest c =
    let e = c.into-name.ensures in
    c.from_residual.ensures
    ∙ ap (placed 0) (c.in_err-lowest.ensures ∙ sym (first_behind (names_in c.args.self.now) c.args.node _ _ e.0 e.1 (sym c.is_whole.ensures ∙ c.if-is_whole.true)))

pub returns-in_ok-lowest : goal.returns-in_ok-lowest
returns-in_ok-lowest c =
    let e = c.into-name.ensures in
    ap (placed 0) (c.in_ok-lowest.ensures ∙ sym (first_behind (names_in c.args.self.now) c.args.node _ _ e.0 e.1 (sym c.is_whole.ensures ∙ c.if-is_whole.true)))
