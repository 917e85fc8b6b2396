use Rattle.exact_heap.proofs.LawsQuiet.{places_quietly}
use Rattle.exact_heap.proofs.LawsQuietCalls.{malloc_is_quiet, memalign_is_quiet, calloc_is_quiet, free_is_quiet, realloc_is_quiet, end_is_quiet, begins_whole}
use Rattle.exact_heap.proofs.laws.whole_heaps_are_quiet.Goals as goal

pub returns : goal.returns
returns c = record { begins = begins_whole; place = places_quietly c.slot_laws.ensures; malloc = malloc_is_quiet c.slot_laws.ensures; memalign = memalign_is_quiet c.slot_laws.ensures; calloc = calloc_is_quiet c.slot_laws.ensures; free = free_is_quiet c.slot_laws.ensures; realloc = realloc_is_quiet c.slot_laws.ensures; check_end = end_is_quiet c.slot_laws.ensures }
