use Rattle.std.proofs.Common.{◌+◌, ap, ◌∙◌, arith}
use Rattle.list.specs.Groups.{placed}
use Rattle.list.specs.Opened.{names_in}
use Rattle.list.proofs.Placed.{group_within, group_longer, group_few, placed_next}
use Rattle.list.proofs.list.List.next_group.Goals as goal

pub group_end-requires : goal.group_end-requires
group_end-requires c =
    let h = c.from-len.ensures.1 in
    let g = group_longer c.args.self.now c.args.node c.requires.node c.args.group c.requires.stands in
    record { there = group_within c.args.self.now c.args.node c.requires.node c.args.group c.requires.stands; longer = omega arith }

pub overflow_add-position : goal.overflow_add-position
overflow_add-position c = let h = group_few c.args.self.now c.args.node c.requires.node c.args.group c.requires.stands in omega arith

pub returns-in_err-lowest : goal.returns-in_err-lowest
returns-in_err-lowest c =
    c.from_residual.ensures
    ∙ ap (placed (c.args.group.position + 1)) (c.in_err-lowest.ensures
    ∙ placed_next (names_in c.args.self.now) c.args.node c.from-len.result.len c.from-len.ensures.1 c.args.group c.requires.stands c.group_end.result c.group_end.ensures)

pub returns : goal.returns
returns c =
    ap (placed (c.args.group.position + 1)) (c.in_ok-lowest.ensures
    ∙ placed_next (names_in c.args.self.now) c.args.node c.from-len.result.len c.from-len.ensures.1 c.args.group c.requires.stands c.group_end.result c.group_end.ensures)
