use Rattle.std.proofs.Common.{refl}
use Rattle.rv_machine.specs.Harts.{waits}
use Rattle.rv_machine.proofs.Carried.{give-follows, homely-kept, counted-kept, given}
use Rattle.rv_machine.proofs.machine.Machine.give.Goals as goal

pub invariant_of-self-clause-homely : goal.invariant_of-self-clause-homely
invariant_of-self-clause-homely c =
    let old = c.args.self.now in
    homely-kept old.heap old.hart c.give.new.self c.stores_keep_home.ensures.mapping c.give.ensures.taken (give-follows old.hart c.give.new.self (waits old.hart) c.args.bytes.now c.give.result c.bounds.ensures c.requires.sound c.requires.takes c.give.ensures.gives) old.homely

pub invariant_of-self-clause-counted : goal.invariant_of-self-clause-counted
invariant_of-self-clause-counted c =
    let old = c.args.self.now in
    counted-kept old.heap old.hart c.give.new.self (give-follows old.hart c.give.new.self (waits old.hart) c.args.bytes.now c.give.result c.bounds.ensures c.requires.sound c.requires.takes c.give.ensures.gives) old.counted

pub returns-clause-gives : goal.returns-clause-gives
returns-clause-gives c = given c.args.self.now _ c.args.bytes.now c.give.result refl refl c.give.ensures.gives
