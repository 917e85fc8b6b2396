use Rattle.miniheap.proofs.PickLemmas.{draws_find_free_slots}
use Rattle.miniheap.proofs.laws.draws_find_free_slots.Goals as goal

pub returns : goal.returns
returns c = draws_find_free_slots
