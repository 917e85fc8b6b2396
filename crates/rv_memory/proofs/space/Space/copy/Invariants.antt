use Rattle.std.proofs.Common.{◌≡◌, ◌-◌, ◌≤◌}
use Rattle.rv_memory.specs.Memory.{with_copy, KeepsTaken}
use Rattle.rv_memory.specs.Spaces.{memory_of, taken_of}
use Rattle.rv_memory.proofs.space.Space.copy.Given as goal

-- the bytes that were copied so far
abbrev pub invariant-loop-done : goal.invariant-loop-done
invariant-loop-done l = (l.done ≤ l.len) × (memory_of l.self ≡ with_copy (memory_of l.initial.self) l.from l.to l.done) × KeepsTaken (taken_of l.initial.self) (taken_of l.self)

abbrev pub decreases-loop-done : goal.decreases-loop-done
decreases-loop-done l = l.len - l.done
