use Rattle.std.specs.Slice.Iter.{split_inclusive_rest}
use Rattle.input.proofs.Lining.{Read}
use Rattle.input.proofs.reading.read_lines.Given as goal

abbrev pub invariant-loop-line : goal.invariant-loop-line
invariant-loop-line l =
    (goal.iterator-loop-line).can_next l.line-iterator
    × (goal.iterator-loop-line).is_finite l.line-iterator
    × Read l.text l.place (split_inclusive_rest l.line-iterator) l.input
