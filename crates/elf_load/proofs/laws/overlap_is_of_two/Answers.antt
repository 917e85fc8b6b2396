use Rattle.elf_load.proofs.Pairs.{overlap_met, overlap_none}
use Rattle.elf_load.proofs.laws.overlap_is_of_two.Goals as goal

pub returns : goal.returns
returns c = record { met = overlap_met; none = overlap_none }
