use Rattle.std.proofs.Common.{refl}
use Rattle.rv_machine.proofs.Carried.{finish-follows, homely-kept, counted-kept, finished}
use Rattle.rv_machine.proofs.machine.Machine.wrote.Goals as goal

pub invariant_of-self-clause-homely : goal.invariant_of-self-clause-homely
invariant_of-self-clause-homely c =
    let old = c.args.self.now in
    homely-kept old.heap old.hart c.wrote.new.self c.stores_keep_home.ensures.mapping c.wrote.ensures.taken (finish-follows old.hart c.wrote.new.self c.bounds.ensures c.requires.sound c.wrote.ensures.finishes) old.homely

pub invariant_of-self-clause-counted : goal.invariant_of-self-clause-counted
invariant_of-self-clause-counted c =
    let old = c.args.self.now in
    counted-kept old.heap old.hart c.wrote.new.self (finish-follows old.hart c.wrote.new.self c.bounds.ensures c.requires.sound c.wrote.ensures.finishes) old.counted

pub returns-clause-finishes : goal.returns-clause-finishes
returns-clause-finishes c = finished c.args.self.now _ refl refl c.wrote.ensures.finishes
