use Rattle.std.proofs.Common.{◌≡◌, ℕ, ◌+◌, ◌-◌, ◌≤◌, ◌<◌, length, slice_index, Some}
use Rattle.rv_memory.specs.Spaces.{memory_of}
use Rattle.rv_memory.proofs.space.Space.span_read.Given as goal

-- the bytes that were read so far
abbrev pub invariant-loop-done : goal.invariant-loop-done
invariant-loop-done l = (l.done ≤ length l.buf) × ((k : ℕ) → k < l.done → (memory_of l.self).bytes (l.addr + k) ≡ Some (slice_index l.buf k))

abbrev pub decreases-loop-done : goal.decreases-loop-done
decreases-loop-done l = length l.initial.buf - l.done
