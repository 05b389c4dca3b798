use Rattle.std.proofs.Common.{◌-◌, ◌≤◌}
use Rattle.list.specs.Groups.{Stands}
use Rattle.list.specs.Opened.{names_in}
use Rattle.list.proofs.list.List.group.Given as goal

abbrev pub invariant-loop-group : goal.invariant-loop-group
invariant-loop-group l = record { stands : Stands (names_in l.self) l.node l.group; not_behind : l.group.position ≤ l.position }

abbrev pub decreases-loop-group : goal.decreases-loop-group
decreases-loop-group l = l.position - l.group.position
