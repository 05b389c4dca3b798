use Rattle.std.proofs.Common.{sym, subst, refl, arith}
use Rattle.prefixes.specs.Shared.{group_at}
use Rattle.list.specs.Groups.{LastNotAbove}
use Rattle.list.specs.Opened.{names_in}
use Rattle.list.specs.Held.{names_rise}
use Rattle.list.proofs.Placed.{placed_none, above_none, first_above, last_of_all, last_below, last_met}
use Rattle.list.proofs.list.List.last_not_above.Goals as goal

pub returns-in_err-group : goal.returns-in_err-group
returns-in_err-group c =
    let l = c.args.self.now in
    subst (λ o. LastNotAbove (names_in l) c.args.node c.args.byte o) (sym c.from_residual.ensures)
    (above_none (names_in l) (names_rise l) c.args.node c.requires c.args.byte 0 (placed_none 0 (group_at (names_in l) c.args.node 0) c.in_err-group.ensures))

pub returns-then-byte_of-byte : goal.returns-then-byte_of-byte
returns-then-byte_of-byte c =
    let l = c.args.self.now in
    let e = c.byte_of.ensures in
    let h = c.if-byte_of-byte.true in
    first_above (names_in l) (names_rise l) c.args.node c.requires c.args.byte c.in_ok-group.group c.in_ok-group.ensures (omega arith)

-- the byte is met
pub returns-after-loop-next : goal.returns-after-loop-next
returns-after-loop-next c =
    let l = c.args.self.now in
    let e = c.byte_of-in-loop-next.ensures in
    let h = c.loop-next-test.false in
    last_met (names_in l) (names_rise l) c.args.node c.requires c.args.byte c.loop-next.group c.loop-next.invariant.stands c.loop-next.invariant.below (omega arith)

-- or the next group goes on by a byte above it
pub returns-then-byte_of-byte-2 : goal.returns-then-byte_of-byte-2
returns-then-byte_of-byte-2 c =
    let l = c.args.self.now in
    let e = c.byte_of-in-loop-next-2.ensures in
    let h = c.if-byte_of-byte-2.true in
    last_below (names_in l) (names_rise l) c.args.node c.requires c.args.byte c.loop-next.group c.loop-next.invariant.stands c.loop-next.invariant.below
    _ c.in-Some.next c.in-Some.ensures refl (omega arith)

-- or there is none
pub returns-in_default : goal.returns-in_default
returns-in_default c =
    let l = c.args.self.now in
    last_of_all (names_in l) (names_rise l) c.args.node c.requires c.args.byte c.loop-next.group c.loop-next.invariant.stands c.loop-next.invariant.below
    _ c.in_default.ensures refl
