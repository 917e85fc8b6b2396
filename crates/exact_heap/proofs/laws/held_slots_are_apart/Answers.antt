use Rattle.exact_heap.proofs.LawsApart.{held_slots_are_apart, objects_lie_within}
use Rattle.exact_heap.proofs.LawsCounted.{taken_are_counted}
use Rattle.exact_heap.proofs.laws.held_slots_are_apart.Goals as goal

pub returns : goal.returns
returns c = record { apart = held_slots_are_apart c.slot_laws.ensures; within = objects_lie_within c.slot_laws.ensures c.slots_have_their_places.ensures.multiples; counted = taken_are_counted c.slot_laws.ensures }
