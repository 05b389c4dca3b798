use Rattle.std.proofs.Common.{◌-◌, ◌≤◌, ◌%◌}
use Rattle.prefixes.specs.Walks.{byte_at}
use Rattle.list.specs.Groups.{Stands}
use Rattle.list.specs.Opened.{names_in}
use Rattle.list.proofs.list.List.last_not_above.Given as goal

abbrev pub invariant-loop-next : goal.invariant-loop-next
invariant-loop-next l = record {
  stands : Stands (names_in l.self) l.node l.group;
  below : byte_at (names_in l.self) l.group.lowest (l.node % 256) ≤ l.byte;
}

abbrev pub decreases-loop-next : goal.decreases-loop-next
decreases-loop-next l = 256 - l.group.position
