use Rattle.law.proofs.Combined.{complement_count}
use Rattle.law.proofs.complement_count.Goals as goal

pub returns : goal.returns
returns g c = complement_count
