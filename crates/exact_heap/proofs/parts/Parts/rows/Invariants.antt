use Rattle.exact_heap.proofs.Walks.{bytes_left}
use Rattle.exact_heap.proofs.Ends.{RowsGoOn}
use Rattle.exact_heap.proofs.parts.Parts.rows.Given as goal

abbrev pub invariant-loop-next : goal.invariant-loop-next
invariant-loop-next l = RowsGoOn l.self l.next l.rows.items

abbrev pub decreases-loop-next : goal.decreases-loop-next
decreases-loop-next l = bytes_left l.self.slots.grid l.next
