use Rattle.std.proofs.Common.{refl}
use Rattle.rv_machine.proofs.Carried.{step-follows, homely-kept, counted-kept, carried}
use Rattle.rv_machine.proofs.machine.Machine.carry_out.Goals as goal

pub invariant_of-self-clause-homely : goal.invariant_of-self-clause-homely
invariant_of-self-clause-homely c =
    let old = c.args.self.now in
    homely-kept old.heap old.hart c.step.new.self c.stores_keep_home.ensures.mapping c.step.ensures.taken (step-follows old.hart c.step.new.self c.step.result c.bounds.ensures c.step.ensures.step c.step.ensures.spent) old.homely

pub invariant_of-self-clause-counted : goal.invariant_of-self-clause-counted
invariant_of-self-clause-counted c =
    let old = c.args.self.now in
    counted-kept old.heap old.hart c.step.new.self (step-follows old.hart c.step.new.self c.step.result c.bounds.ensures c.step.ensures.step c.step.ensures.spent) old.counted

pub invariant_of-self-clause-kept : goal.invariant_of-self-clause-kept
invariant_of-self-clause-kept c = c.step.ensures.nameless c.args.self.now.names.items c.requires.nameless c.args.self.now.kept

pub returns-clause-step : goal.returns-clause-step
returns-clause-step c e h stands = carried c.args.self.now _ h c.step.result refl refl stands (c.requires.nameless e) (c.step.ensures.step e)
