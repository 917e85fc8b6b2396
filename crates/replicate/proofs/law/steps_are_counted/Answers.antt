use Rattle.replicate.proofs.Counted.{guest-counted}
use Rattle.replicate.proofs.law.steps_are_counted.Goals as goal

pub returns : goal.returns
returns c = guest-counted
