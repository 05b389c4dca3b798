use Rattle.law.proofs.Combined.{union_and_intersection_count}
use Rattle.law.proofs.union_and_intersection_count.Goals as goal

pub returns : goal.returns
returns g c = union_and_intersection_count
