use Rattle.rv_machine.proofs.Outside.{home-there}
use Rattle.rv_machine.proofs.machine.new_heap.Goals as goal

pub returns-clause-stands : goal.returns-clause-stands
returns-clause-stands c = c.new.ensures.stands

pub returns-clause-rules : goal.returns-clause-rules
returns-clause-rules c = c.new.ensures.rules

pub returns-clause-clock : goal.returns-clause-clock
returns-clause-clock c = c.new.ensures.clock

pub returns-clause-calls : goal.returns-clause-calls
returns-clause-calls c = c.new.ensures.calls

pub returns-clause-home : goal.returns-clause-home
returns-clause-home c = home-there c.args.space.now c.requires c.new.result c.new.ensures.home
