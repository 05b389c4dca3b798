use Rattle.law.proofs.Places.{place_is_kept}
use Rattle.law.proofs.place_is_kept.Goals as goal

pub returns : goal.returns
returns g c = place_is_kept
