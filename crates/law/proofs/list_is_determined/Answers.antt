use Rattle.law.proofs.Unique.{determined}
use Rattle.law.proofs.list_is_determined.Goals as goal

pub returns : goal.returns
returns g c = determined
