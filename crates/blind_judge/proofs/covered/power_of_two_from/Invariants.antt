use Rattle.std.proofs.Common.{◌≡◌, ◌+◌, ◌^◌, ◌<◌, ◌≤◌}
use Rattle.infinite_heap.specs.Covered.{power_from}
use Rattle.blind_judge.proofs.covered.power_of_two_from.Given as goal

abbrev pub invariant-loop-power : goal.invariant-loop-power
invariant-loop-power l =
    (power_from l.power l.need l.doublings ≡ power_from 16 l.need l.fn.size)
    × (l.need ≤ l.power + l.doublings) × (16 ≤ l.power) × (l.power < 2 ^ 34)

abbrev pub decreases-loop-power : goal.decreases-loop-power
decreases-loop-power l = l.doublings
