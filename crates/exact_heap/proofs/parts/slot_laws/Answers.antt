use Rattle.exact_heap.proofs.parts.slot_laws.Goals as goal

pub returns : goal.returns
returns c = record {
  hold = c.slots_have_their_places.ensures.hold;
  within = c.slots_have_their_places.ensures.within;
  apart = c.slots_have_their_places.ensures.apart;
  aligned = c.slots_have_their_places.ensures.aligned;
  known = c.slots_have_their_places.ensures.known;
  found = c.slots_have_their_places.ensures.found;
  follow = c.slots_have_their_places.ensures.follow;
  stay = c.slots_have_their_places.ensures.stay;
  added = c.slots_have_their_places.ensures.added;
  fit = c.slots_are_counted.ensures.fit;
  few = c.slots_are_counted.ensures.few;
  once = c.slots_are_counted.ensures.once;
  taking = c.slots_are_counted.ensures.taking;
  growing = c.slots_are_counted.ensures.growing;
  free = c.draws_find_free_slots.ensures;
}
