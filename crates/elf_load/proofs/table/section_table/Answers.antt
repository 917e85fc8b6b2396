use Rattle.std.proofs.Common.{sym, ◌∙◌}
use Rattle.elf_load.proofs.TableRules.{sections_nowhere, no_sections}
use Rattle.elf_load.proofs.table.section_table.Goals as goal

pub returns-then-from-eq0-clause-table : goal.returns-then-from-eq0-clause-table
returns-then-from-eq0-clause-table c = sections_nowhere c.args.file.now (sym c.u32_at-from.ensures ∙ c.if-from-eq0.true)

pub returns-then-count-eq0-clause-table : goal.returns-then-count-eq0-clause-table
returns-then-count-eq0-clause-table c = no_sections c.args.file.now (sym c.u16_at.ensures ∙ sym c.from-count.ensures ∙ c.if-count-eq0.true)
