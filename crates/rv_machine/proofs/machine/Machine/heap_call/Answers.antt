use Rattle.infinite_heap.specs.declared.fault.FaultKind.TheVariants.{Jump}
use Rattle.rv_machine.proofs.Carried.{fault-follows, homely-kept, counted-kept}
use Rattle.rv_machine.proofs.machine.Machine.heap_call.Goals as goal

pub invariant_of-self-clause-homely : goal.invariant_of-self-clause-homely
invariant_of-self-clause-homely c =
    let old = c.args.self.now in
    homely-kept old.heap old.hart c.fault.new.self c.stores_keep_home.ensures.mapping c.fault.ensures.taken (fault-follows old.hart c.fault.new.self Jump _ c.fault.result c.requires.ready.sound c.fault.ensures.step) old.homely

pub invariant_of-self-clause-counted : goal.invariant_of-self-clause-counted
invariant_of-self-clause-counted c =
    let old = c.args.self.now in
    counted-kept old.heap old.hart c.fault.new.self (fault-follows old.hart c.fault.new.self Jump _ c.fault.result c.requires.ready.sound c.fault.ensures.step) old.counted
