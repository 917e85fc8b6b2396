use Rattle.rv_memory.specs.Spaces.{memory_of}
use Rattle.heap_image.proofs.Taken.{Walks, bytes_left}
use Rattle.heap_image.proofs.broken.broken_of.Given as goal

abbrev pub invariant-loop-next : goal.invariant-loop-next
invariant-loop-next l = Walks l.grid (memory_of l.space) l.word l.next l.broken.items

abbrev pub decreases-loop-next : goal.decreases-loop-next
decreases-loop-next l = bytes_left l.grid l.next
