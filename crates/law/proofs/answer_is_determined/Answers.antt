use Rattle.law.proofs.Determinacy.{answer_determined}
use Rattle.law.proofs.answer_is_determined.Goals as goal

pub returns : goal.returns
returns g c = answer_determined
