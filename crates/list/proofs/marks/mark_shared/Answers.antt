-- At first no row has marks. Assumes nothing.
use Rattle.std.proofs.Common.{refl, arith}
use Rattle.names.specs.Names.{names_of}
use Rattle.list.proofs.Marking.{row_short, rows_unmarked, shared_start}
use Rattle.list.proofs.marks.mark_shared.Goals as goal

pub loop-row-init : goal.loop-row-init
loop-row-init c =
    record {
      same = rows_unmarked c.args.text.now c.args.rows.now c.requires;
      shared = λ m h. absurd (omega arith);
      later = λ m h. refl;
      short = λ m h. row_short c.args.text.now c.args.rows.now c.requires m;
      no_jumps = λ m. let l = row_short c.args.text.now c.args.rows.now c.requires m in omega arith;
      before = shared_start (names_of c.args.text.now c.args.rows.now);
    }
