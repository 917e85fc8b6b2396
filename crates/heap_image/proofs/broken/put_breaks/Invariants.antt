use Rattle.std.proofs.Common.{◌≡◌, ◌-◌, ◌≤◌, ◌++◌}
use Rattle.rv_memory.specs.Spaces.{memory_of}
use Rattle.heap_image.specs.Taking.{breaks_in}
use Rattle.heap_image.proofs.broken.put_breaks.Given as goal

abbrev pub invariant-loop-found : goal.invariant-loop-found
invariant-loop-found l = (l.addr ≤ l.at) × (l.at ≤ l.end) × (l.out.items ++ breaks_in (memory_of l.space) l.word l.at (l.end - l.at) ≡ l.initial.out.items ++ breaks_in (memory_of l.space) l.word l.addr l.len)

abbrev pub decreases-loop-found : goal.decreases-loop-found
decreases-loop-found l = l.end - l.at
