-- Which rows have no marks any more. Assumes nothing.
use Rattle.std.proofs.Common.{◌≡◌, ◌++◌, drop, map, take}
use Rattle.list.specs.Marks.{unmarked}
use Rattle.list.proofs.marks.unmark.Given as goal

abbrev pub invariant-loop-row : goal.invariant-loop-row
invariant-loop-row l = l.rows ≡ map unmarked (take l.row-index l.initial.rows) ++ drop l.row-index l.initial.rows
