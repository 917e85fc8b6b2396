use Rattle.exact_heap.proofs.Heaps.{nothing_mapped}
use Rattle.exact_heap.proofs.LawsHomes.{slots_are_mapped}
use Rattle.exact_heap.proofs.LawsMapped.{malloc_keeps_mapped, memalign_keeps_mapped, calloc_keeps_mapped, free_keeps_mapped, realloc_keeps_mapped}
use Rattle.exact_heap.proofs.laws.miniheaps_are_mapped.Goals as goal

pub returns : goal.returns
returns c = record {
  malloc = malloc_keeps_mapped c.slot_laws.ensures;
  memalign = memalign_keeps_mapped c.slot_laws.ensures;
  calloc = calloc_keeps_mapped c.slot_laws.ensures;
  free = free_keeps_mapped c.slot_laws.ensures;
  realloc = realloc_keeps_mapped c.slot_laws.ensures;
  slots = slots_are_mapped c.slot_laws.ensures;
  nothing = nothing_mapped;
}
