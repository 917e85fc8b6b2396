use Rattle.replicate.proofs.Arriving.{comes-within}
use Rattle.replicate.proofs.schedules.each_replica_arrives.Goals as goal

pub returns : goal.returns
returns c = comes-within c.steps_are_counted.ensures c.steps_are_shaped.ensures.guest
