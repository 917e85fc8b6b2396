use Rattle.exact_heap.specs.Calls.{realloc}
use Rattle.exact_heap.specs.Heaps.{HasHome, rules_of, clock_in, calls_in}
use Rattle.exact_heap.proofs.Heaps.{carried, carried_spent}
use Rattle.exact_heap.proofs.heap.Heap.realloc.Goals as goal

pub returns-then-self : goal.returns-then-self
returns-then-self c = carried_spent (realloc (rules_of c.args.self.now) c.args.old c.args.size c.args.site) c.args.self.now c.args.space.now c.if-self.true c.requires.home

pub realloc-answer-requires-clause-calls : goal.realloc-answer-requires-clause-calls
unfolding calls_in
realloc-answer-requires-clause-calls c = c.requires.calls

pub realloc-answer-requires-clause-clock : goal.realloc-answer-requires-clause-clock
unfolding clock_in
realloc-answer-requires-clause-clock c = c.requires.clock

pub realloc-answer-requires-clause-home : goal.realloc-answer-requires-clause-home
unfolding HasHome
realloc-answer-requires-clause-home c = c.requires.home c.if-self.false

pub returns : goal.returns
unfolding rules_of
returns c =
    carried (realloc (rules_of c.args.self.now) c.args.old c.args.size c.args.site) c.args.self.now _ c.args.space.now c.realloc-answer.new.space c.realloc-answer.result c.if-self.false
    c.realloc-answer.ensures c.is_memory-self.ensures
