use Rattle.exact_heap.proofs.LawsObjects.{adds_one, counts_one_more, changes_one, keeps_count, malloc_ends, memalign_ends, calloc_ends, free_ends, realloc_ends}
use Rattle.exact_heap.proofs.laws.objects_after_calls.Goals as goal

pub returns : goal.returns
returns c = record {
  new = adds_one;
  new_count = counts_one_more;
  change = changes_one;
  change_count = keeps_count;
  malloc = malloc_ends c.slot_laws.ensures;
  memalign = memalign_ends c.slot_laws.ensures;
  calloc = calloc_ends c.slot_laws.ensures;
  free = free_ends;
  realloc = realloc_ends c.slot_laws.ensures;
}
