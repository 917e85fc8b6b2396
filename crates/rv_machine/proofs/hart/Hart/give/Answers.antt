use Rattle.std.proofs.Common.{length, subst}
use Rattle.rv_machine.specs.Core.{stepped}
use Rattle.rv_machine.specs.Harts.{core_of, waits, IsAt}
use Rattle.rv_machine.proofs.Answered.{gives}
use Rattle.rv_machine.proofs.hart.Hart.give.Goals as goal

pub returns-in-Ok-clause-gives : goal.returns-in-Ok-clause-gives
returns-in-Ok-clause-gives c =
    let old = c.args.self.now in
    let known = c.in-Ok.ensures {u = tt} in
    gives (core_of old) (waits old) c.args.bytes.now c.step_over.new.self c.requires.takes
    (subst (λ m. IsAt (record (stepped (core_of old) 10 (length c.args.bytes.now)) { memory = m }) c.step_over.new.self) known.written c.step_over.ensures.step)
