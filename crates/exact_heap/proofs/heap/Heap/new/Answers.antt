use Rattle.std.proofs.Common.{refl, ap, sym, subst}
use Rattle.rv_memory.specs.Spaces.{memory_of, taken_of}
use Rattle.miniheap.specs.Slots.{Slots}
use Rattle.exact_heap.specs.declared.counts.Counts.{Counts}
use Rattle.exact_heap.specs.History.{no_history}
use Rattle.exact_heap.specs.Home.{IsHome}
use Rattle.exact_heap.specs.Heaps.{HasHome, rules_of, slots_in, clock_in, calls_in}
use Rattle.exact_heap.proofs.Heaps.{new_stands, new_home}
use Rattle.exact_heap.proofs.heap.Heap.new.Goals as goal

pub invariant_of-result : goal.invariant_of-result
invariant_of-result c =
    record { sound = ∣ (no_history c.args.seed, new_stands _ c.new-3.ensures c.new.ensures c.new-2.ensures.dues c.new-4.ensures c.new-5.ensures c.new-6.ensures refl) ∣₁ }

pub returns-clause-stands : goal.returns-clause-stands
returns-clause-stands c =
    record { parts = new_stands _ c.new-3.ensures c.new.ensures c.new-2.ensures.dues c.new-4.ensures c.new-5.ensures c.new-6.ensures refl; lives = refl }

pub returns-clause-rules : goal.returns-clause-rules
unfolding rules_of
returns-clause-rules c = refl

pub returns-clause-slots : goal.returns-clause-slots
unfolding slots_in
returns-clause-slots c = c.new-3.ensures

pub returns-clause-home : goal.returns-clause-home
unfolding HasHome
returns-clause-home c space e = λ f. subst (λ (s : Slots). IsHome s (memory_of space) (taken_of space)) (sym c.new-3.ensures) (new_home (memory_of space) (taken_of space) e)

pub returns-clause-clock : goal.returns-clause-clock
unfolding clock_in
returns-clause-clock c = ap (λ (x : Counts). x.clock) c.new-5.ensures

pub returns-clause-calls : goal.returns-clause-calls
unfolding calls_in
returns-clause-calls c = ap (λ (x : Counts). x.calls) c.new-5.ensures
