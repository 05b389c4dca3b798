use Rattle.std.proofs.Common.{◌-◌, ◌≤◌, ◌%◌}
use Rattle.prefixes.specs.Walks.{byte_at}
use Rattle.list.specs.Groups.{Stands}
use Rattle.list.specs.Opened.{names_in}
use Rattle.list.proofs.list.List.far_not_above.Given as goal

abbrev pub invariant-loop-far : goal.invariant-loop-far
invariant-loop-far l = record {
  stands : Stands (names_in l.self) l.node l.group;
  below : byte_at (names_in l.self) l.group.lowest (l.node % 256) ≤ l.byte;
  on : l.fn.from.position ≤ l.group.position;
}

abbrev pub decreases-loop-far : goal.decreases-loop-far
decreases-loop-far l = 256 - l.group.position
