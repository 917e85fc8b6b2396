use Rattle.exact_heap.proofs.LawsPatched.{new_heap_follows_patches, malloc_follows_patches, memalign_follows_patches, calloc_follows_patches, free_follows_patches, realloc_follows_patches}
use Rattle.exact_heap.proofs.laws.patches_decide.Goals as goal

pub returns : goal.returns
returns c = record {
  begins = new_heap_follows_patches;
  malloc = malloc_follows_patches c.slot_laws.ensures;
  memalign = memalign_follows_patches c.slot_laws.ensures;
  calloc = calloc_follows_patches c.slot_laws.ensures;
  free = free_follows_patches;
  realloc = realloc_follows_patches c.slot_laws.ensures;
}
