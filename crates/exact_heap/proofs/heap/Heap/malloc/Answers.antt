use Rattle.exact_heap.specs.Calls.{malloc}
use Rattle.exact_heap.specs.Heaps.{HasHome, rules_of, clock_in, calls_in}
use Rattle.exact_heap.proofs.Heaps.{carried, carried_spent}
use Rattle.exact_heap.proofs.heap.Heap.malloc.Goals as goal

pub returns-then-self : goal.returns-then-self
returns-then-self c = carried_spent (malloc (rules_of c.args.self.now) c.args.size c.args.site) c.args.self.now c.args.space.now c.if-self.true c.requires.home

pub malloc-answer-requires-clause-calls : goal.malloc-answer-requires-clause-calls
unfolding calls_in
malloc-answer-requires-clause-calls c = c.requires.calls

pub malloc-answer-requires-clause-clock : goal.malloc-answer-requires-clause-clock
unfolding clock_in
malloc-answer-requires-clause-clock c = c.requires.clock

pub malloc-answer-requires-clause-home : goal.malloc-answer-requires-clause-home
unfolding HasHome
malloc-answer-requires-clause-home c = c.requires.home c.if-self.false

pub returns : goal.returns
unfolding rules_of
returns c =
    carried (malloc (rules_of c.args.self.now) c.args.size c.args.site) c.args.self.now _ c.args.space.now c.malloc-answer.new.space c.malloc-answer.result c.if-self.false
    c.malloc-answer.ensures c.is_memory-self.ensures
