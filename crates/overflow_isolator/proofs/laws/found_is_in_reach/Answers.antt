use Rattle.overflow_isolator.proofs.One.{in_reach}
use Rattle.overflow_isolator.proofs.laws.found_is_in_reach.Goals as goal

pub returns : goal.returns
returns c = in_reach
