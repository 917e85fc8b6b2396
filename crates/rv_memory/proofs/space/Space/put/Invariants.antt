use Rattle.std.proofs.Common.{◌≡◌, ◌-◌, ◌≤◌, length, slice_index}
use Rattle.rv_memory.specs.Memory.{filled, KeepsTaken}
use Rattle.rv_memory.specs.Spaces.{memory_of, taken_of}
use Rattle.rv_memory.proofs.space.Space.put.Given as goal

-- the bytes that were written so far
abbrev pub invariant-loop-done : goal.invariant-loop-done
invariant-loop-done l = (l.done ≤ length l.bytes) × (memory_of l.self ≡ filled (memory_of l.initial.self) l.addr l.done (λ a. slice_index l.bytes (a - l.addr))) × KeepsTaken (taken_of l.initial.self) (taken_of l.self)

abbrev pub decreases-loop-done : goal.decreases-loop-done
decreases-loop-done l = length l.bytes - l.done
