use Rattle.std.proofs.Common.{◌≡◌, is_some}
use Rattle.infinite_heap.specs.InfiniteState.{InfState, cells_of_state}
use Rattle.infinite_heap.specs.InfiniteSystem.{numbers_of}
use Rattle.infinite_heap.specs.Memory.{get_all}
use Rattle.blind_judge.specs.Stands.{Stands}
use Rattle.blind_judge.proofs.state.State.are_numbers.Given as goal

abbrev pub invariant-loop-left : goal.invariant-loop-left
invariant-loop-left l = (s : InfState) → Stands l.self s → is_some (numbers_of (get_all ((cells_of_state s).heap l.object) l.offset l.len)) ≡ is_some (numbers_of (get_all ((cells_of_state s).heap l.object) l.at l.left))

abbrev pub decreases-loop-left : goal.decreases-loop-left
decreases-loop-left l = l.left
