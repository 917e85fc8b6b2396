use Rattle.std.proofs.Common.{refl, arith}
use Rattle.exact_heap.specs.Calls.{memalign}
use Rattle.exact_heap.specs.Stands.{state_at}
use Rattle.rv_machine.specs.Stands.{rules_in}
use Rattle.rv_machine.proofs.Carried.{home-of}
use Rattle.rv_machine.proofs.Returned.{answers-call, kept-home}
use Rattle.rv_machine.proofs.machine.Machine.memalign.Goals as goal

pub memalign-answer-requires-clause-clock : goal.memalign-answer-requires-clause-clock
memalign-answer-requires-clause-clock c = omega (arith, (c.args.self.now.counted c.requires.ready.sound c.requires.ready.going).1, c.requires.count)

pub memalign-answer-requires-clause-calls : goal.memalign-answer-requires-clause-calls
memalign-answer-requires-clause-calls c = omega (arith, (c.args.self.now.counted c.requires.ready.sound c.requires.ready.going).0, c.requires.count)

pub memalign-answer-requires-clause-home : goal.memalign-answer-requires-clause-home
memalign-answer-requires-clause-home c = home-of c.args.self.now.heap c.args.self.now.hart c.args.self.now.homely c.requires.ready.sound

pub invariant_of-self-2-clause-homely : goal.invariant_of-self-2-clause-homely
invariant_of-self-2-clause-homely c = kept-home c.memalign-answer.new.self c.answer_call.new.self c.memalign-answer.new.space c.answer_call.ensures.space c.memalign-answer.ensures.home

pub invariant_of-self-2-clause-counted : goal.invariant_of-self-2-clause-counted
invariant_of-self-2-clause-counted c e n =
    let old = c.args.self.now.counted c.requires.ready.sound c.requires.ready.going in
    let steps = c.answer_call.ensures.counted e n in
    (omega (arith, old.0, steps, c.memalign-answer.ensures.numbered), omega (arith, old.1, steps, c.memalign-answer.ensures.counted))

pub returns-clause-step : goal.returns-clause-step
returns-clause-step c h stands =
    let old = c.args.self.now in
    answers-call old _ h c.args.back (memalign (rules_in old) c.args.align c.args.size c.args.site (state_at h old.hart.space)) c.memalign-answer.result c.memalign-answer.new.space c.answer_call.result c.memalign-answer.ensures.rules refl (c.memalign-answer.ensures.answers h stands) c.answer_call.ensures.comes
