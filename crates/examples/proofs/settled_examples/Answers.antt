use Rattle.examples.proofs.Worked.{worked}
use Rattle.examples.proofs.settled_examples.Goals as goal

pub returns : goal.returns
returns c = worked
