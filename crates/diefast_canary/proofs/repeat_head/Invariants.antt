use Rattle.std.proofs.Common.{◌≡◌, ℕ, ◌%◌, ◌<◌, ◌≤◌, ◌-◌, length, get_or}
use Rattle.diefast_canary.proofs.repeat_head.Given as goal

abbrev pub invariant-loop-at : goal.invariant-loop-at
invariant-loop-at l = record {
  start : 512 ≤ l.at;
  end : l.at ≤ length l.bytes;
  period : l.at < length l.bytes → l.at % 512 ≡ 0;
  repeated : (k : ℕ) → k < l.at → get_or l.bytes k 0 ≡ get_or l.fn.bytes (k % 512) 0;
}

abbrev pub decreases-loop-at : goal.decreases-loop-at
decreases-loop-at l = length l.bytes - l.at
