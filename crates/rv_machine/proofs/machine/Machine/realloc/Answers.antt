use Rattle.std.proofs.Common.{refl, arith}
use Rattle.exact_heap.specs.Calls.{realloc}
use Rattle.exact_heap.specs.Stands.{state_at}
use Rattle.rv_machine.specs.Stands.{rules_in}
use Rattle.rv_machine.proofs.Carried.{home-of}
use Rattle.rv_machine.proofs.Returned.{answers-call, kept-home}
use Rattle.rv_machine.proofs.machine.Machine.realloc.Goals as goal

pub realloc-answer-requires-clause-clock : goal.realloc-answer-requires-clause-clock
realloc-answer-requires-clause-clock c = omega (arith, (c.args.self.now.counted c.requires.ready.sound c.requires.ready.going).1, c.requires.count)

pub realloc-answer-requires-clause-calls : goal.realloc-answer-requires-clause-calls
realloc-answer-requires-clause-calls c = omega (arith, (c.args.self.now.counted c.requires.ready.sound c.requires.ready.going).0, c.requires.count)

pub realloc-answer-requires-clause-home : goal.realloc-answer-requires-clause-home
realloc-answer-requires-clause-home c = home-of c.args.self.now.heap c.args.self.now.hart c.args.self.now.homely c.requires.ready.sound

pub invariant_of-self-2-clause-homely : goal.invariant_of-self-2-clause-homely
invariant_of-self-2-clause-homely c = kept-home c.realloc-answer.new.self c.answer_call.new.self c.realloc-answer.new.space c.answer_call.ensures.space c.realloc-answer.ensures.home

pub invariant_of-self-2-clause-counted : goal.invariant_of-self-2-clause-counted
invariant_of-self-2-clause-counted c e n =
    let old = c.args.self.now.counted c.requires.ready.sound c.requires.ready.going in
    let steps = c.answer_call.ensures.counted e n in
    (omega (arith, old.0, steps, c.realloc-answer.ensures.numbered), omega (arith, old.1, steps, c.realloc-answer.ensures.counted))

pub returns-clause-step : goal.returns-clause-step
returns-clause-step c h stands =
    let old = c.args.self.now in
    answers-call old _ h c.args.back (realloc (rules_in old) c.args.old c.args.size c.args.site (state_at h old.hart.space)) c.realloc-answer.result c.realloc-answer.new.space c.answer_call.result c.realloc-answer.ensures.rules refl (c.realloc-answer.ensures.answers h stands) c.answer_call.ensures.comes
