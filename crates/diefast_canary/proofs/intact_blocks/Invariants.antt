use Rattle.std.proofs.Common.{◌≡◌, ◌%◌, ◌≤◌, ◌-◌, length}
use Rattle.diefast_canary.specs.Canary.{IsIntactTo}
use Rattle.diefast_canary.proofs.intact_blocks.Given as goal

abbrev pub invariant-loop-at : goal.invariant-loop-at
invariant-loop-at l = record { end : l.at ≤ length l.bytes; period : l.at % 4 ≡ 0; intact : IsIntactTo l.word l.phase l.bytes l.at }

abbrev pub decreases-loop-at : goal.decreases-loop-at
decreases-loop-at l = length l.bytes - l.at
