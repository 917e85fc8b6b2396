use Rattle.replicate.proofs.Ahead.{rounds-go-on, schedules-are-rounds}
use Rattle.replicate.proofs.schedules.schedules_are_rounds.Goals as goal

pub returns-clause-rounds : goal.returns-clause-rounds
returns-clause-rounds c = schedules-are-rounds c.steps_are_counted.ensures c.steps_are_shaped.ensures.guest

pub returns-clause-onward : goal.returns-clause-onward
returns-clause-onward c = rounds-go-on c.steps_are_counted.ensures c.steps_are_shaped.ensures.guest
