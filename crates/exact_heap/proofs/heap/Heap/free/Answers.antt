use Rattle.std.proofs.Common.{arith}
use Rattle.exact_heap.specs.Heaps.{HasHome, rules_of, clock_in, calls_in}
use Rattle.exact_heap.proofs.Heaps.{lives_not}
use Rattle.exact_heap.proofs.heap.Heap.free.Goals as goal

pub free-requires-clause-calls : goal.free-requires-clause-calls
unfolding calls_in
free-requires-clause-calls c = c.requires.calls

pub free-requires-clause-clock : goal.free-requires-clause-clock
unfolding clock_in
free-requires-clause-clock c = c.requires.clock

pub free-requires-clause-home : goal.free-requires-clause-home
unfolding HasHome
free-requires-clause-home c = c.requires.home c.if-not-self.true

pub returns-then-not-self-clause-leaves : goal.returns-then-not-self-clause-leaves
unfolding rules_of
returns-then-not-self-clause-leaves c h st = let g = c.free.ensures.leaves h st.parts in record { stands = record { parts = g.stands; lives = c.if-not-self.true }; memory = g.bytes }

pub returns-then-not-self-clause-spent : goal.returns-then-not-self-clause-spent
returns-then-not-self-clause-spent c s = absurd (lives_not c.args.self.now c.if-not-self.true s)

pub returns-then-not-self-clause-untouched : goal.returns-then-not-self-clause-untouched
returns-then-not-self-clause-untouched c s = absurd (lives_not c.args.self.now c.if-not-self.true s)

pub returns-then-not-self-clause-rules : goal.returns-then-not-self-clause-rules
unfolding rules_of
returns-then-not-self-clause-rules c = c.free.ensures.rules

pub returns-then-not-self-clause-home : goal.returns-then-not-self-clause-home
unfolding HasHome
returns-then-not-self-clause-home c e = c.free.ensures.home

pub returns-then-not-self-clause-counted : goal.returns-then-not-self-clause-counted
unfolding clock_in
returns-then-not-self-clause-counted c = omega (arith, c.free.ensures.counted)

pub returns-then-not-self-clause-numbered : goal.returns-then-not-self-clause-numbered
unfolding calls_in
returns-then-not-self-clause-numbered c = omega (arith, c.free.ensures.numbered)
