use Rattle.std.proofs.Common.{◌-◌, ◌≤◌, length}
use Rattle.rv_memory.specs.Ranges.{HaveBegun, AreToCome}
use Rattle.rv_memory.proofs.space.begun_by.Given as goal

abbrev pub invariant-loop-low : goal.invariant-loop-low
invariant-loop-low l = (l.low ≤ l.high) × (l.high ≤ length l.ranges) × HaveBegun l.ranges l.low l.addr × AreToCome l.ranges l.high l.addr

abbrev pub decreases-loop-low : goal.decreases-loop-low
decreases-loop-low l = l.high - l.low
