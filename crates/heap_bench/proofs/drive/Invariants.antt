use Rattle.exact_heap.specs.Heaps.{HasHome}
use Rattle.heap_bench.proofs.drive.Given as goal

abbrev pub invariant-loop : goal.invariant-loop
invariant-loop l = HasHome l.heap l.space
