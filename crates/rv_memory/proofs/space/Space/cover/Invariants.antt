use Rattle.std.proofs.Common.{◌≡◌, ◌-◌, ◌≤◌}
use Rattle.rv_memory.specs.Access.{rest_byte}
use Rattle.rv_memory.specs.Memory.{filled, KeepsTaken}
use Rattle.rv_memory.specs.Spaces.{memory_of, taken_of}
use Rattle.rv_memory.proofs.space.Space.cover.Given as goal

-- the addresses that were filled so far
abbrev pub invariant-loop-at : goal.invariant-loop-at
invariant-loop-at l = (l.addr ≤ l.at) × (l.at ≤ l.end) × (memory_of l.self ≡ filled (memory_of l.initial.self) l.addr (l.at - l.addr) (rest_byte l.rest)) × KeepsTaken (taken_of l.initial.self) (taken_of l.self)

abbrev pub decreases-loop-at : goal.decreases-loop-at
decreases-loop-at l = l.end - l.at
