use Rattle.std.proofs.Common.{refl, arith}
use Rattle.exact_heap.specs.Calls.{malloc}
use Rattle.exact_heap.specs.Stands.{state_at}
use Rattle.rv_machine.specs.Stands.{rules_in}
use Rattle.rv_machine.proofs.Carried.{home-of}
use Rattle.rv_machine.proofs.Returned.{answers-call, kept-home}
use Rattle.rv_machine.proofs.machine.Machine.malloc.Goals as goal

pub malloc-answer-requires-clause-clock : goal.malloc-answer-requires-clause-clock
malloc-answer-requires-clause-clock c = omega (arith, (c.args.self.now.counted c.requires.ready.sound c.requires.ready.going).1, c.requires.count)

pub malloc-answer-requires-clause-calls : goal.malloc-answer-requires-clause-calls
malloc-answer-requires-clause-calls c = omega (arith, (c.args.self.now.counted c.requires.ready.sound c.requires.ready.going).0, c.requires.count)

pub malloc-answer-requires-clause-home : goal.malloc-answer-requires-clause-home
malloc-answer-requires-clause-home c = home-of c.args.self.now.heap c.args.self.now.hart c.args.self.now.homely c.requires.ready.sound

pub invariant_of-self-2-clause-homely : goal.invariant_of-self-2-clause-homely
invariant_of-self-2-clause-homely c = kept-home c.malloc-answer.new.self c.answer_call.new.self c.malloc-answer.new.space c.answer_call.ensures.space c.malloc-answer.ensures.home

pub invariant_of-self-2-clause-counted : goal.invariant_of-self-2-clause-counted
invariant_of-self-2-clause-counted c e n =
    let old = c.args.self.now.counted c.requires.ready.sound c.requires.ready.going in
    let steps = c.answer_call.ensures.counted e n in
    (omega (arith, old.0, steps, c.malloc-answer.ensures.numbered), omega (arith, old.1, steps, c.malloc-answer.ensures.counted))

pub returns-clause-step : goal.returns-clause-step
returns-clause-step c h stands =
    let old = c.args.self.now in
    answers-call old _ h c.args.back (malloc (rules_in old) c.args.size c.args.site (state_at h old.hart.space)) c.malloc-answer.result c.malloc-answer.new.space c.answer_call.result c.malloc-answer.ensures.rules refl (c.malloc-answer.ensures.answers h stands) c.answer_call.ensures.comes
