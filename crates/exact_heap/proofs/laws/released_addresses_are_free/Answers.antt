use Rattle.exact_heap.proofs.LawsDues.{released_slots_are_free, released_have_none, new_heap_keeps_dues, malloc_keeps_dues, memalign_keeps_dues, calloc_keeps_dues, free_keeps_dues, realloc_keeps_dues}
use Rattle.exact_heap.proofs.laws.released_addresses_are_free.Goals as goal

pub returns : goal.returns
returns c = record {
  slots = released_slots_are_free c.slot_laws.ensures;
  none = released_have_none c.slot_laws.ensures;
  begins = new_heap_keeps_dues;
  malloc = malloc_keeps_dues c.slot_laws.ensures;
  memalign = memalign_keeps_dues c.slot_laws.ensures;
  calloc = calloc_keeps_dues c.slot_laws.ensures;
  free = free_keeps_dues;
  realloc = realloc_keeps_dues c.slot_laws.ensures;
}
