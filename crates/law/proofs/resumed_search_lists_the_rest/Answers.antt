use Rattle.law.proofs.Combined.{resumed_lists_the_rest}
use Rattle.law.proofs.resumed_search_lists_the_rest.Goals as goal

pub returns : goal.returns
returns g c = resumed_lists_the_rest
