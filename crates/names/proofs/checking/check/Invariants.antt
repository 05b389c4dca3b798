use Rattle.std.proofs.Common.{◌≡◌}
use Rattle.std.specs.Option.{option_map}
use Rattle.names.specs.Names.{before}
use Rattle.names.proofs.First.{first}
use Rattle.names.proofs.checking.check.Given as goal

abbrev pub invariant-loop-i : goal.invariant-loop-i
invariant-loop-i l =
    (option_map (λ x. x.now) l.before ≡ before l.text l.rows l.i)
    × (first l.text l.rows 0 ≡ first l.text l.rows l.i)
