use Rattle.law.proofs.Determinacy.{one_open_reason}
use Rattle.law.proofs.refusal_of_an_opening_is_determined.Goals as goal

pub returns : goal.returns
returns c = one_open_reason
