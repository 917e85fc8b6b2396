use Rattle.miniheap.proofs.DrawLemmas.{HaveMissed}
use Rattle.miniheap.proofs.heap.Grid.draw_often.Given as goal

abbrev pub invariant-loop-made : goal.invariant-loop-made
invariant-loop-made l = HaveMissed l.self l.class l.initial.words l.words l._made l.number
