use Rattle.std.proofs.Common.{map, refl, ap, sym, ◌∙◌, arith}
use Rattle.prefixes.specs.Ends.{ends_behind}
use Rattle.list.specs.Marks.{shared_by, span}
use Rattle.list.specs.Opened.{names_in}
use Rattle.list.proofs.Placed.{group_within, group_few, placed_far}
use Rattle.list.proofs.list.List.far_group.Goals as goal

pub overflow_add-position : goal.overflow_add-position
overflow_add-position c = let h = group_few c.args.self.now c.args.node c.requires.node c.args.group c.requires.stands in omega arith

pub returns : goal.returns
returns c =
    let l = c.args.self.now in
    let w = group_within l c.args.node c.requires.node c.args.group c.requires.stands in (
      sym (c.in_ok-lowest.ensures
          ∙ placed_far (names_in l) c.args.node c.from-len.result.len c.from-len.ensures.1 c.args.group c.requires.stands c.in_ok-from.from c.in_ok-far_behind.field-0 w
          c.in_ok-from.ensures (c.in_ok-far_behind.ensures c.in_ok-far_behind.field-0 refl ∙ ap (λ xs. ends_behind xs span c.in_ok-from.from) (ap (map shared_by) c.rows.ensures ∙ l.shared))),
      refl,
    )
