use Rattle.exact_heap.proofs.LawsNewSlots.{malloc_gives_new_slot, memalign_gives_new_slot, calloc_gives_new_slot, none_realloc_gives_new_slot, realloc_gives_new_slot}
use Rattle.exact_heap.proofs.laws.new_slots_are_fresh.Goals as goal

pub returns : goal.returns
returns c = record {
  malloc = malloc_gives_new_slot c.slot_laws.ensures;
  memalign = memalign_gives_new_slot c.slot_laws.ensures;
  calloc = calloc_gives_new_slot c.slot_laws.ensures;
  none_realloc = none_realloc_gives_new_slot c.slot_laws.ensures;
  realloc = realloc_gives_new_slot c.slot_laws.ensures;
}
