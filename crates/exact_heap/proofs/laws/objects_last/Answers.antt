use Rattle.exact_heap.proofs.LawsLasting.{holders_held, malloc_keeps_objects, memalign_keeps_objects, calloc_keeps_objects, free_keeps_objects, realloc_keeps_objects}
use Rattle.exact_heap.proofs.laws.objects_last.Goals as goal

pub returns : goal.returns
returns c = record {
  holders = holders_held;
  malloc = malloc_keeps_objects c.slot_laws.ensures;
  memalign = memalign_keeps_objects c.slot_laws.ensures;
  calloc = calloc_keeps_objects c.slot_laws.ensures;
  free = free_keeps_objects;
  realloc = realloc_keeps_objects c.slot_laws.ensures;
}
