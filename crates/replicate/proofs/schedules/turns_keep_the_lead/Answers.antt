use Rattle.replicate.proofs.Leading.{cycles-keep, gates-keep, starts-without-lead, turns-keep}
use Rattle.replicate.proofs.schedules.turns_keep_the_lead.Goals as goal

pub returns-clause-start : goal.returns-clause-start
returns-clause-start c = starts-without-lead

pub returns-clause-turns : goal.returns-clause-turns
returns-clause-turns c = turns-keep c.steps_are_counted.ensures c.steps_are_shaped.ensures.guest

pub returns-clause-cycles : goal.returns-clause-cycles
returns-clause-cycles c = cycles-keep c.steps_are_counted.ensures c.steps_are_shaped.ensures.guest

pub returns-clause-gates : goal.returns-clause-gates
returns-clause-gates c = gates-keep
