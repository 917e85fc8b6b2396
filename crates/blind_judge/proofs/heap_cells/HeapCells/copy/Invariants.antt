use Rattle.std.proofs.Common.{◌≡◌, ◌-◌, ◌%◌, ◌<◌, ◌≤◌}
use Rattle.blind_judge.specs.HeapCells.{CopiesFirst}
use Rattle.blind_judge.proofs.heap_cells.HeapCells.copy.Given as goal

abbrev pub invariant-loop-at : goal.invariant-loop-at
invariant-loop-at l = record {
  first : CopiesFirst l.fn.self l.self l.from l.to l.begins l.at;
  start : l.at < l.count → l.at % 64 ≡ 0;
  within : l.at ≤ l.count;
}

abbrev pub decreases-loop-at : goal.decreases-loop-at
decreases-loop-at l = l.count - l.at
