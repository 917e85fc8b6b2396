use Rattle.value_laws.proofs.Reached.{reach_is_least}
use Rattle.value_laws.proofs.reach_is_least.Goals as goal

pub returns : goal.returns
returns c = reach_is_least
