-- How far the way towards an end has come. Assumes nothing.
use Rattle.std.proofs.Common.{◌≡◌, ◌≤◌, length, map}
use Rattle.prefixes.specs.Ends.{end_from}
use Rattle.list.specs.Marks.{shared_by}
use Rattle.list.proofs.marks.towards_end.Given as goal

abbrev pub invariant-loop : goal.invariant-loop
invariant-loop l =
    (l.from ≤ l.at) × (l.at ≤ length l.rows)
    × (end_from (map shared_by l.rows) l.len l.at ≡ end_from (map shared_by l.rows) l.len l.from)
