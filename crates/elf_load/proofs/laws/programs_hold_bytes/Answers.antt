use Rattle.elf_load.proofs.HeldBytes.{program_holds}
use Rattle.elf_load.proofs.laws.programs_hold_bytes.Goals as goal

pub returns : goal.returns
returns c = program_holds
