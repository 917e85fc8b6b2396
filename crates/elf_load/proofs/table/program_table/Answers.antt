use Rattle.std.proofs.Common.{sym, ◌∙◌}
use Rattle.elf_load.proofs.TableRules.{no_programs}
use Rattle.elf_load.proofs.table.program_table.Goals as goal

pub returns-then-count-eq0 : goal.returns-then-count-eq0
returns-then-count-eq0 c = no_programs c.args.file.now (sym c.u16_at.ensures ∙ sym c.from-count.ensures ∙ c.if-count-eq0.true)
