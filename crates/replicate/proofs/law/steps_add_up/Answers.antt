use Rattle.replicate.proofs.Onward.{onward-both, onward-there}
use Rattle.replicate.proofs.law.steps_add_up.Goals as goal

pub returns-clause-sum : goal.returns-clause-sum
returns-clause-sum c = onward-both

pub returns-clause-stay : goal.returns-clause-stay
returns-clause-stay c = onward-there
