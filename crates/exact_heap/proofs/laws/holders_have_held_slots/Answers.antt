use Rattle.exact_heap.proofs.LawsHolders.{holders_have_held_slots}
use Rattle.exact_heap.proofs.laws.holders_have_held_slots.Goals as goal

pub returns : goal.returns
returns c = holders_have_held_slots c.slot_laws.ensures
