use Rattle.std.proofs.Common.{ap, sym, ◌∙◌, arith}
use Rattle.prefixes.specs.Shared.{group_at}
use Rattle.list.specs.Groups.{placed}
use Rattle.list.specs.Opened.{names_in}
use Rattle.list.specs.Held.{names_rise}
use Rattle.list.proofs.Placed.{placed_none, none_behind}
use Rattle.list.proofs.list.List.group.Goals as goal

pub returns-in_err-group : goal.returns-in_err-group
returns-in_err-group c =
    let l = c.args.self.now in
    let p = c.args.position in
    c.from_residual.ensures
    ∙ ap (placed p) (sym (none_behind (names_in l) (names_rise l) c.args.node c.requires 0 p (omega arith)
    (placed_none 0 (group_at (names_in l) c.args.node 0) c.in_err-group.ensures)))
