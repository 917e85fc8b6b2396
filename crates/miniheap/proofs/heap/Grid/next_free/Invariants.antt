use Rattle.miniheap.proofs.DrawLemmas.{HavePassed}
use Rattle.miniheap.proofs.heap.Grid.next_free.Given as goal

abbrev pub invariant-loop-step : goal.invariant-loop-step
invariant-loop-step l = HavePassed l.self l.class l.from l._step l.number
