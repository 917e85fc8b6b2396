use Rattle.exact_heap.proofs.LawsOneCall.{malloc_is_one_call, memalign_is_one_call, calloc_is_one_call, free_is_one_call, realloc_is_one_call}
use Rattle.exact_heap.proofs.laws.calls_are_counted.Goals as goal

pub returns : goal.returns
returns c = record { malloc = malloc_is_one_call; memalign = memalign_is_one_call; calloc = calloc_is_one_call; free = free_is_one_call; realloc = realloc_is_one_call }
