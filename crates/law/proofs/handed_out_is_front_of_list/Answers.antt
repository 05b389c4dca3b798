use Rattle.law.proofs.Histories.{handed_out_is_front}
use Rattle.law.proofs.handed_out_is_front_of_list.Goals as goal

pub returns : goal.returns
returns g c = handed_out_is_front
