-- How far the way to an end has come. Assumes nothing.
use Rattle.std.proofs.Common.{◌≡◌, ◌-◌, ◌≤◌, length, map}
use Rattle.prefixes.specs.Ends.{end_from}
use Rattle.list.specs.Marks.{shared_by}
use Rattle.list.proofs.marks.end_from.Given as goal

abbrev pub invariant-loop-at : goal.invariant-loop-at
invariant-loop-at l =
    (l.from ≤ l.at) × (l.at ≤ length l.rows)
    × (end_from (map shared_by l.rows) l.len l.from ≡ end_from (map shared_by l.rows) l.len l.at)

abbrev pub decreases-loop-at : goal.decreases-loop-at
decreases-loop-at l = length l.rows - l.at
