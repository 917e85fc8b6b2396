use Rattle.exact_heap.proofs.LawsSearch.{turns_are_enough}
use Rattle.exact_heap.proofs.LawsPlaced.{placement_ends}
use Rattle.exact_heap.proofs.laws.placement_ends.Goals as goal

pub returns : goal.returns
returns c = record { ends = placement_ends c.slot_laws.ensures; enough = turns_are_enough c.slot_laws.ensures }
