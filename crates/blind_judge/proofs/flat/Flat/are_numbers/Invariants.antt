use Rattle.std.proofs.Common.{◌≡◌, is_some}
use Rattle.infinite_heap.specs.InfiniteSystem.{numbers_of}
use Rattle.infinite_heap.specs.Memory.{get_all}
use Rattle.blind_judge.specs.Flat.{flat_of}
use Rattle.blind_judge.proofs.flat.Flat.are_numbers.Given as goal

abbrev pub invariant-loop-left : goal.invariant-loop-left
invariant-loop-left l = is_some (numbers_of (get_all (flat_of l.self) l.x l.len)) ≡ is_some (numbers_of (get_all (flat_of l.self) l.at l.left))

abbrev pub decreases-loop-left : goal.decreases-loop-left
decreases-loop-left l = l.left
