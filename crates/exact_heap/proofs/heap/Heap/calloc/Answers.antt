use Rattle.exact_heap.specs.Calls.{calloc}
use Rattle.exact_heap.specs.Heaps.{HasHome, rules_of, clock_in, calls_in}
use Rattle.exact_heap.proofs.Heaps.{carried, carried_spent}
use Rattle.exact_heap.proofs.heap.Heap.calloc.Goals as goal

pub returns-then-self : goal.returns-then-self
returns-then-self c = carried_spent (calloc (rules_of c.args.self.now) c.args.count c.args.each c.args.site) c.args.self.now c.args.space.now c.if-self.true c.requires.home

pub calloc-answer-requires-clause-calls : goal.calloc-answer-requires-clause-calls
unfolding calls_in
calloc-answer-requires-clause-calls c = c.requires.calls

pub calloc-answer-requires-clause-clock : goal.calloc-answer-requires-clause-clock
unfolding clock_in
calloc-answer-requires-clause-clock c = c.requires.clock

pub calloc-answer-requires-clause-home : goal.calloc-answer-requires-clause-home
unfolding HasHome
calloc-answer-requires-clause-home c = c.requires.home c.if-self.false

pub returns : goal.returns
unfolding rules_of
returns c =
    carried (calloc (rules_of c.args.self.now) c.args.count c.args.each c.args.site) c.args.self.now _ c.args.space.now c.calloc-answer.new.space c.calloc-answer.result c.if-self.false
    c.calloc-answer.ensures c.is_memory-self.ensures
