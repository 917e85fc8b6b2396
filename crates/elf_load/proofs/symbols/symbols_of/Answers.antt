use Rattle.std.proofs.Common.{arith}
use Rattle.elf_load.proofs.Linked.{linked_says}
use Rattle.elf_load.proofs.symbols.symbols_of.Goals as goal

pub returns-clause-inside : goal.returns-clause-inside
returns-clause-inside c = let l = linked_says c.args.file.now c.args.at c.requires.linked in omega (arith, l.whole, l.inside, c.u32_at.ensures, c.u32_at-2.ensures)
