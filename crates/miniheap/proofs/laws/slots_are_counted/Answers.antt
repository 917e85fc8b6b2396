use Rattle.miniheap.proofs.CountLemmas.{slots_fit, slots_are_few, slots_stand_once, taking_counts, releasing_counts, growing_counts}
use Rattle.miniheap.proofs.laws.slots_are_counted.Goals as goal

pub returns : goal.returns
returns c = record { fit = slots_fit; few = slots_are_few; once = slots_stand_once; taking = taking_counts; releasing = releasing_counts; growing = growing_counts }
