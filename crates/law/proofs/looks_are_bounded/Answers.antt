use Rattle.law.proofs.Looks.{always_bounded}
use Rattle.law.proofs.looks_are_bounded.Goals as goal

pub returns : goal.returns
returns g c = always_bounded
