use Rattle.exact_heap.proofs.LawsCalls.{begins_lawful, malloc_is_lawful, memalign_is_lawful, calloc_is_lawful, free_is_lawful, realloc_is_lawful, end_is_lawful}
use Rattle.exact_heap.proofs.LawsHomes.{heaps_are_lawful}
use Rattle.exact_heap.proofs.Timed.{objects_are_timed}
use Rattle.exact_heap.proofs.laws.histories_stay_lawful.Goals as goal

pub returns : goal.returns
returns c = record { begins = begins_lawful; malloc = malloc_is_lawful c.slot_laws.ensures; memalign = memalign_is_lawful c.slot_laws.ensures; calloc = calloc_is_lawful c.slot_laws.ensures; free = free_is_lawful c.slot_laws.ensures; realloc = realloc_is_lawful c.slot_laws.ensures; check_end = end_is_lawful c.slot_laws.ensures; timed = objects_are_timed; stood_for = heaps_are_lawful }
