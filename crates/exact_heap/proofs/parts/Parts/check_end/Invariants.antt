use Rattle.exact_heap.proofs.Walks.{bytes_left}
use Rattle.exact_heap.proofs.Ends.{EndsGoOn}
use Rattle.exact_heap.proofs.parts.Parts.check_end.Given as goal

abbrev pub invariant-loop-next : goal.invariant-loop-next
invariant-loop-next l = EndsGoOn l.initial.self l.self l.space l.next

abbrev pub decreases-loop-next : goal.decreases-loop-next
decreases-loop-next l = bytes_left l.initial.self.slots.grid l.next
