use Rattle.elf_load.proofs.LawfulPrograms.{accepted_is_lawful}
use Rattle.elf_load.proofs.laws.programs_are_lawful.Goals as goal

pub returns : goal.returns
returns c = accepted_is_lawful
