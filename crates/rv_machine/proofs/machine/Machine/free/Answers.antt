use Rattle.std.proofs.Common.{refl, arith, ap}
use Rattle.exact_heap.specs.Calls.{free}
use Rattle.exact_heap.specs.Stands.{state_at}
use Rattle.rv_machine.specs.Stands.{rules_in}
use Rattle.rv_machine.proofs.Carried.{home-of}
use Rattle.rv_machine.proofs.Returned.{frees-call, kept-home}
use Rattle.rv_machine.proofs.machine.Machine.free.Goals as goal

pub free-requires-clause-clock : goal.free-requires-clause-clock
free-requires-clause-clock c = omega (arith, (c.args.self.now.counted c.requires.ready.sound c.requires.ready.going).1, c.requires.count)

pub free-requires-clause-calls : goal.free-requires-clause-calls
free-requires-clause-calls c = omega (arith, (c.args.self.now.counted c.requires.ready.sound c.requires.ready.going).0, c.requires.count)

pub free-requires-clause-home : goal.free-requires-clause-home
free-requires-clause-home c = home-of c.args.self.now.heap c.args.self.now.hart c.args.self.now.homely c.requires.ready.sound

pub invariant_of-self-2-clause-homely : goal.invariant_of-self-2-clause-homely
invariant_of-self-2-clause-homely c = kept-home c.free.new.self c.back_to.new.self c.free.new.space c.back_to.ensures.space c.free.ensures.home

pub invariant_of-self-2-clause-counted : goal.invariant_of-self-2-clause-counted
invariant_of-self-2-clause-counted c e n =
    let old = c.args.self.now.counted c.requires.ready.sound c.requires.ready.going in
    let steps = ap (λ core. core.steps) c.back_to.ensures.at.stands in
    (omega (arith, old.0, steps, c.free.ensures.numbered), omega (arith, old.1, steps, c.free.ensures.counted))

pub returns-clause-step : goal.returns-clause-step
returns-clause-step c h stands =
    let old = c.args.self.now in
    frees-call old _ h c.args.back (free (rules_in old) c.args.addr c.args.site (state_at h old.hart.space)) c.free.new.space c.free.ensures.rules refl (c.free.ensures.leaves h stands) c.back_to.ensures.at
