use Rattle.exact_heap.proofs.LawsUnownedCalls.{malloc_leaves_unowned, memalign_leaves_unowned, calloc_leaves_unowned, free_leaves_unowned, realloc_leaves_unowned}
use Rattle.exact_heap.proofs.LawsUnownedEnd.{end_leaves_unowned}
use Rattle.exact_heap.proofs.laws.unowned_slots_are_left_alone.Goals as goal

pub returns : goal.returns
returns c = record { malloc = malloc_leaves_unowned c.slot_laws.ensures; memalign = memalign_leaves_unowned c.slot_laws.ensures; calloc = calloc_leaves_unowned c.slot_laws.ensures; free = free_leaves_unowned c.slot_laws.ensures; realloc = realloc_leaves_unowned c.slot_laws.ensures; check_end = end_leaves_unowned c.slot_laws.ensures }
