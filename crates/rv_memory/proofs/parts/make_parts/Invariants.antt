use Rattle.std.proofs.Common.{◌-◌, ◌≤◌, ◌+◌}
use Rattle.rv_memory.specs.Access.{new_byte}
use Rattle.rv_memory.specs.Ranges.{AreParts}
use Rattle.rv_memory.proofs.parts.make_parts.Given as goal

-- the parts from an address on
abbrev pub invariant-loop-end : goal.invariant-loop-end
invariant-loop-end l = (l.mapping.from ≤ l.end) × (l.end ≤ l.mapping.from + l.mapping.len) × AreParts l.end (l.mapping.from + l.mapping.len) (new_byte l.first l.mapping.rest l.mapping.from) l.mapping.writable l.mapping.runs l.parts.items

abbrev pub decreases-loop-end : goal.decreases-loop-end
decreases-loop-end l = l.end - l.from
