use Rattle.rv_machine.specs.Harts.{core_of}
use Rattle.rv_machine.proofs.Answered.{finishes}
use Rattle.rv_machine.proofs.hart.Hart.wrote.Goals as goal

pub returns-clause-finishes : goal.returns-clause-finishes
returns-clause-finishes c = finishes (core_of c.args.self.now) c.step_over.new.self c.requires.prints c.step_over.ensures.step
