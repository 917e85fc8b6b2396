use Rattle.exact_heap.proofs.LawsCopies.{realloc_copies}
use Rattle.exact_heap.proofs.LawsHeldCalls.{malloc_keeps_held, memalign_keeps_held, calloc_keeps_held, free_keeps_held, realloc_keeps_held, malloc_gives_new_bytes, memalign_gives_new_bytes, calloc_gives_zeros, realloc_gives_new_bytes}
use Rattle.exact_heap.proofs.laws.held_slots_are_kept.Goals as goal

pub returns : goal.returns
returns c = record {
  malloc = malloc_keeps_held c.slot_laws.ensures;
  memalign = memalign_keeps_held c.slot_laws.ensures;
  calloc = calloc_keeps_held c.slot_laws.ensures;
  free = free_keeps_held c.slot_laws.ensures;
  realloc = realloc_keeps_held c.slot_laws.ensures;
  malloc_bytes = malloc_gives_new_bytes c.slot_laws.ensures;
  memalign_bytes = memalign_gives_new_bytes c.slot_laws.ensures;
  calloc_bytes = calloc_gives_zeros c.slot_laws.ensures;
  realloc_bytes = realloc_gives_new_bytes c.slot_laws.ensures;
  copies = realloc_copies c.slot_laws.ensures;
}
