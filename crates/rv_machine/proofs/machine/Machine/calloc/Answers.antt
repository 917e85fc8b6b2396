use Rattle.std.proofs.Common.{refl, arith}
use Rattle.exact_heap.specs.Calls.{calloc}
use Rattle.exact_heap.specs.Stands.{state_at}
use Rattle.rv_machine.specs.Stands.{rules_in}
use Rattle.rv_machine.proofs.Carried.{home-of}
use Rattle.rv_machine.proofs.Returned.{answers-call, kept-home}
use Rattle.rv_machine.proofs.machine.Machine.calloc.Goals as goal

pub calloc-answer-requires-clause-clock : goal.calloc-answer-requires-clause-clock
calloc-answer-requires-clause-clock c = omega (arith, (c.args.self.now.counted c.requires.ready.sound c.requires.ready.going).1, c.requires.count)

pub calloc-answer-requires-clause-calls : goal.calloc-answer-requires-clause-calls
calloc-answer-requires-clause-calls c = omega (arith, (c.args.self.now.counted c.requires.ready.sound c.requires.ready.going).0, c.requires.count)

pub calloc-answer-requires-clause-home : goal.calloc-answer-requires-clause-home
calloc-answer-requires-clause-home c = home-of c.args.self.now.heap c.args.self.now.hart c.args.self.now.homely c.requires.ready.sound

pub invariant_of-self-2-clause-homely : goal.invariant_of-self-2-clause-homely
invariant_of-self-2-clause-homely c = kept-home c.calloc-answer.new.self c.answer_call.new.self c.calloc-answer.new.space c.answer_call.ensures.space c.calloc-answer.ensures.home

pub invariant_of-self-2-clause-counted : goal.invariant_of-self-2-clause-counted
invariant_of-self-2-clause-counted c e n =
    let old = c.args.self.now.counted c.requires.ready.sound c.requires.ready.going in
    let steps = c.answer_call.ensures.counted e n in
    (omega (arith, old.0, steps, c.calloc-answer.ensures.numbered), omega (arith, old.1, steps, c.calloc-answer.ensures.counted))

pub returns-clause-step : goal.returns-clause-step
returns-clause-step c h stands =
    let old = c.args.self.now in
    answers-call old _ h c.args.back (calloc (rules_in old) c.args.count c.args.each c.args.site (state_at h old.hart.space)) c.calloc-answer.result c.calloc-answer.new.space c.answer_call.result c.calloc-answer.ensures.rules refl (c.calloc-answer.ensures.answers h stands) c.answer_call.ensures.comes
