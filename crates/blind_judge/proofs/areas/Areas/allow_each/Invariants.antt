use Rattle.std.proofs.Common.{◌≡◌, ◌≤◌, ◌-◌, true}
use Rattle.infinite_heap.specs.InfiniteSystem.{all_in}
use Rattle.blind_judge.specs.Areas.{test_of}
use Rattle.blind_judge.specs.AreaLists.{mapping_in}
use Rattle.blind_judge.proofs.areas.Areas.allow_each.Given as goal

abbrev pub invariant-loop-at : goal.invariant-loop-at
invariant-loop-at l = record {
  from : l.from ≤ l.at;
  to : l.at ≤ l.end;
  so_far : all_in (test_of l.purpose (mapping_in l.self)) l.from (l.at - l.from) ≡ true;
}

abbrev pub decreases-loop-at : goal.decreases-loop-at
decreases-loop-at l = l.end - l.at
