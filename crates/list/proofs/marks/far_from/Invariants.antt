-- How many ends a long jump has passed. Assumes nothing.
use Rattle.std.proofs.Common.{◌≡◌, ◌<◌, ◌≤◌, length, map}
use Rattle.prefixes.specs.Ends.{ends_behind}
use Rattle.list.specs.Marks.{shared_by}
use Rattle.list.proofs.marks.far_from.Given as goal

abbrev pub invariant-loop : goal.invariant-loop
invariant-loop l = (l.from ≤ l.at) × (l.at < length l.rows) × (ends_behind (map shared_by l.rows) l.counter l.from ≡ l.at)
