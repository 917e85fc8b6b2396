use Rattle.std.proofs.Common.{◌≡◌, ℕ, ◌+◌, ◌-◌, ◌≤◌, vec_len, vec_capacity}
use Rattle.rv_memory.specs.Access.{new_byte}
use Rattle.rv_memory.specs.Memory.{with_range, KeepsTaken}
use Rattle.rv_memory.specs.Ranges.{AreParts}
use Rattle.rv_memory.specs.Spaces.{memory_of, taken_of}
use Rattle.rv_memory.proofs.space.Space.map.Given as goal

-- the parts up to an address are mapped, and there is room for the others
abbrev pub invariant-loop-part : goal.invariant-loop-part
invariant-loop-part l = (at : ℕ) × AreParts at (l.from + l.len) (new_byte l.first l.fn.rest l.from) l.writable l.runs l.parts.items × (l.from ≤ at) × (memory_of l.self ≡ with_range (memory_of l.fn.self) l.from (at - l.from) (new_byte l.first l.fn.rest l.from) l.writable l.runs)
    × KeepsTaken (taken_of l.fn.self) (taken_of l.self) × (vec_len l.self.ranges + vec_len l.parts ≤ vec_capacity l.self.ranges)

abbrev pub decreases-loop-part : goal.decreases-loop-part
decreases-loop-part l = goal.left-loop-part l
