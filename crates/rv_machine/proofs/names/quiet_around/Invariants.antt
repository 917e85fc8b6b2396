use Rattle.std.proofs.Common.{◌≡◌, ◌<◌, ◌≤◌, ◌^◌, ℕ, drop}
use Rattle.infinite_heap.specs.InfiniteHeap.{call_at}
use Rattle.rv_machine.proofs.names.quiet_around.Given as goal

abbrev pub invariant-loop-name : goal.invariant-loop-name
invariant-loop-name l = record {
  low : l.low < 2 ^ 32;
  high : l.high < 2 ^ 32;
  none : (a : ℕ) → l.low ≤ a → a < l.high → call_at l.names a ≡ call_at (drop l.name-index l.names) a;
}
