-- Which rows are marked. Assumes nothing.
use Rattle.std.proofs.Common.{◌≡◌, ℕ, ◌<◌, ◌≤◌, get_or, map}
use Rattle.names.specs.Names.{names_of}
use Rattle.prefixes.specs.Prefixes.{name_at}
use Rattle.prefixes.specs.Shared.{common, shared_in}
use Rattle.list.specs.Marks.{shared_by, unmarked, row_at, NoJumps}
use Rattle.list.proofs.marks.mark_shared.Given as goal

abbrev pub invariant-loop-row : goal.invariant-loop-row
invariant-loop-row l = record {
  same : map unmarked l.rows ≡ l.initial.rows;
  shared : (m : ℕ) → m < l.row-index → shared_by (row_at l.rows m) ≡ get_or (shared_in (names_of l.text l.initial.rows)) m 0;
  later : (m : ℕ) → l.row-index ≤ m → row_at l.rows m ≡ row_at l.initial.rows m;
  short : (m : ℕ) → l.row-index ≤ m → (row_at l.rows m).length < 256;
  no_jumps : NoJumps l.rows;
  before : get_or (shared_in (names_of l.text l.initial.rows)) l.row-index 0 ≡ common l.before (name_at (names_of l.text l.initial.rows) l.row-index);
}
