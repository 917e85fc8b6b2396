use Rattle.simulation.proofs.Aligned.{alignments_are_one}
use Rattle.simulation.proofs.Laid.{heaps_are_laid_out}
use Rattle.simulation.proofs.heaps_are_laid_out.Goals as goal

pub returns : goal.returns
returns c = record { layout = heaps_are_laid_out (record { apart = c.held_slots_are_apart.ensures.apart; within = c.held_slots_are_apart.ensures.within }); alignments = alignments_are_one }
