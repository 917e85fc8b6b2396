use Rattle.exact_heap.proofs.LawsAlike.{places_alike}
use Rattle.exact_heap.proofs.LawsIsomorphic.{begins_isomorphic, malloc_is_same, memalign_is_same, calloc_is_same, free_is_same, realloc_is_same}
use Rattle.exact_heap.proofs.laws.seeds_decide_addresses_alone.Goals as goal

pub returns : goal.returns
returns c = record { place = places_alike c.slot_laws.ensures; begins = begins_isomorphic; malloc = malloc_is_same c.slot_laws.ensures; memalign = memalign_is_same c.slot_laws.ensures; calloc = calloc_is_same c.slot_laws.ensures; free = free_is_same c.slot_laws.ensures; realloc = realloc_is_same c.slot_laws.ensures }
