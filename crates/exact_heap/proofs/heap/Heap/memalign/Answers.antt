use Rattle.exact_heap.specs.Calls.{memalign}
use Rattle.exact_heap.specs.Heaps.{HasHome, rules_of, clock_in, calls_in}
use Rattle.exact_heap.proofs.Heaps.{carried, carried_spent}
use Rattle.exact_heap.proofs.heap.Heap.memalign.Goals as goal

pub returns-then-self : goal.returns-then-self
returns-then-self c = carried_spent (memalign (rules_of c.args.self.now) c.args.align c.args.size c.args.site) c.args.self.now c.args.space.now c.if-self.true c.requires.home

pub memalign-answer-requires-clause-calls : goal.memalign-answer-requires-clause-calls
unfolding calls_in
memalign-answer-requires-clause-calls c = c.requires.calls

pub memalign-answer-requires-clause-clock : goal.memalign-answer-requires-clause-clock
unfolding clock_in
memalign-answer-requires-clause-clock c = c.requires.clock

pub memalign-answer-requires-clause-home : goal.memalign-answer-requires-clause-home
unfolding HasHome
memalign-answer-requires-clause-home c = c.requires.home c.if-self.false

pub returns : goal.returns
unfolding rules_of
returns c =
    carried (memalign (rules_of c.args.self.now) c.args.align c.args.size c.args.site) c.args.self.now _ c.args.space.now c.memalign-answer.new.space c.memalign-answer.result c.if-self.false
    c.memalign-answer.ensures c.is_memory-self.ensures
