use Rattle.exact_heap.proofs.LawsPlaced.{finds_whole_slots, places_in_whole_slots, search_keeps_objects}
use Rattle.exact_heap.proofs.laws.placed_slots_are_whole.Goals as goal

pub returns : goal.returns
returns c = record { found = finds_whole_slots c.slot_laws.ensures; placed = places_in_whole_slots c.slot_laws.ensures; objects = search_keeps_objects c.slot_laws.ensures }
