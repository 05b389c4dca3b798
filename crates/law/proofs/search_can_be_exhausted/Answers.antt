use Rattle.law.proofs.Finish.{can_be_exhausted}
use Rattle.law.proofs.search_can_be_exhausted.Goals as goal

pub returns : goal.returns
returns g c = can_be_exhausted
