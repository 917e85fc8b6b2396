use Rattle.exact_heap.specs.Heaps.{HasHome}
use Rattle.heap_trials.proofs.tests.rules.play.Given as goal

abbrev pub invariant-loop : goal.invariant-loop
invariant-loop l = HasHome l.guest.heap l.guest.space
