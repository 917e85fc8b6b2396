use Rattle.exact_heap.specs.Heaps.{HasHome}
use Rattle.heap_trials.proofs.tests.limits.break_slots.Given as goal

abbrev pub invariant-loop-number : goal.invariant-loop-number
invariant-loop-number l = HasHome l.guest.heap l.guest.space
