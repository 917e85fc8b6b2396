use Rattle.replicate.proofs.Ahead.{rounds-await, started-await}
use Rattle.replicate.proofs.schedules.replicas_wait_for_writes.Goals as goal

pub returns-clause-start : goal.returns-clause-start
returns-clause-start c = started-await

pub returns-clause-rounds : goal.returns-clause-rounds
returns-clause-rounds c = rounds-await
