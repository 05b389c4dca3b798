use Rattle.law.proofs.Histories.{exhausted_lists_all}
use Rattle.law.proofs.exhausted_search_lists_all.Goals as goal

pub returns : goal.returns
returns g c = exhausted_lists_all
