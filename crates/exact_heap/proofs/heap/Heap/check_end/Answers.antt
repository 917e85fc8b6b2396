use Rattle.std.proofs.Common.{ap, sym, subst}
use Rattle.rv_memory.specs.Spaces.{memory_of, taken_of}
use Rattle.exact_heap.specs.declared.parts.Parts.{Parts}
use Rattle.exact_heap.specs.Home.{IsHome}
use Rattle.exact_heap.specs.Stands.{rules_in}
use Rattle.exact_heap.specs.Heaps.{HasHome, rules_of, clock_in, calls_in}
use Rattle.exact_heap.proofs.Heaps.{lives_not}
use Rattle.exact_heap.proofs.heap.Heap.check_end.Goals as goal

pub check_end-requires-clause-home : goal.check_end-requires-clause-home
unfolding HasHome
check_end-requires-clause-home c = c.requires.home c.if-not-self.true

pub returns-then-not-self-clause-spent : goal.returns-then-not-self-clause-spent
returns-then-not-self-clause-spent c s = absurd (lives_not c.args.self.now c.if-not-self.true s)

pub returns-then-not-self-clause-rules : goal.returns-then-not-self-clause-rules
unfolding rules_of
returns-then-not-self-clause-rules c = ap rules_in c.check_end.ensures.rest

pub returns-then-not-self-clause-home : goal.returns-then-not-self-clause-home
unfolding HasHome
returns-then-not-self-clause-home c e = subst (λ (p : Parts). IsHome p.slots.grid (memory_of c.args.space.now) (taken_of c.args.space.now)) (sym c.check_end.ensures.rest) (c.requires.home e)

pub returns-then-not-self-clause-counted : goal.returns-then-not-self-clause-counted
unfolding clock_in
returns-then-not-self-clause-counted c = ap (λ (p : Parts). p.counts.clock) c.check_end.ensures.rest

pub returns-then-not-self-clause-numbered : goal.returns-then-not-self-clause-numbered
unfolding calls_in
returns-then-not-self-clause-numbered c = ap (λ (p : Parts). p.counts.calls) c.check_end.ensures.rest
