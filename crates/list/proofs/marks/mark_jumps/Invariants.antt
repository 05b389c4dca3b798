-- Which rows have their jumps. Assumes nothing.
use Rattle.std.proofs.Common.{◌≡◌, ℕ, ◌-◌, ◌<◌, ◌≤◌, length, map}
use Rattle.list.specs.Marks.{shared_by, jump_by, unmarked, row_at, JumpsFrom}
use Rattle.list.proofs.marks.mark_jumps.Given as goal

abbrev pub invariant-loop-k : goal.invariant-loop-k
invariant-loop-k l = record {
  within : l.k ≤ length l.initial.rows - 1;
  same : map unmarked l.rows ≡ map unmarked l.initial.rows;
  shared : map shared_by l.rows ≡ map shared_by l.initial.rows;
  jumps : JumpsFrom l.rows l.k;
  none : (m : ℕ) → m < l.k → jump_by (row_at l.rows m) ≡ 0;
}

abbrev pub decreases-loop-k : goal.decreases-loop-k
decreases-loop-k l = l.k
