use Rattle.law.proofs.Kept.{listable}
use Rattle.law.proofs.every_lawful_graph_has_a_list.Goals as goal

pub returns : goal.returns
returns g c = listable
