use Rattle.std.proofs.Common.{◌+◌, map, sym, ap, ◌∙◌, arith}
use Rattle.prefixes.specs.Ends.{end_from}
use Rattle.list.specs.Marks.{shared_by}
use Rattle.list.proofs.Jumping.{end_over, end_reached}
use Rattle.list.proofs.list.List.first_group_end.Goals as goal
use Rattle.list.proofs.list.List.first_group_end.Goals.{then-at-rows-via-then-at-rows, then-at-rows-via-else-at-rows+then-shared-len}

-- the way has come to the end
pub returns-then-at-rows : goal.returns-then-at-rows
returns-then-at-rows c =
    let rows = c.rows-rows.result.now in
    let at = c.towards_end-at.result in
    sym (elim c.then-at-rows.branch [
      | then-at-rows-via-then-at-rows w ↦ end_over rows c.args.len at w.if-at-rows.true
      | then-at-rows-via-else-at-rows+then-shared-len w ↦
          let e = w.shared.ensures in
          let h = w.if-shared-len.true in
          end_reached rows at w.if-at-rows.false c.args.len (omega arith)
    ])
    ∙ c.towards_end-at.ensures.same_end
    ∙ ap (λ xs. end_from xs c.args.len (c.args.lowest + 1)) (ap (map shared_by) c.rows-rows.ensures ∙ c.args.self.now.shared)
