use Rattle.std.proofs.Common.{◌∙◌, ap, subst, Ok}
use Rattle.infinite_heap.specs.Lawful.{IsLawful}
use Rattle.elf_load.proofs.Refusals as refusal
use Rattle.elf_load.proofs.LawfulPrograms.{lawful, program_is}
use Rattle.elf_load.proofs.loading.load.Goals as goal

pub returns-in-None : goal.returns-in-None
returns-in-None c = refusal.program_table c.args.file.now c.in_ok-check_head.ensures c.in-None.ensures

pub returns-in-None-section_table : goal.returns-in-None-section_table
returns-in-None-section_table c = refusal.section_table c.args.file.now c.in_ok-check_head.ensures c.in-Some.ensures.0 c.in-None-section_table.ensures.table

pub invariant_of-result : goal.invariant_of-result
invariant_of-result c =
    subst IsLawful (program_is c.args.file.now _ _ _ _ (c.new.ensures ∙ c.in_ok-segments.ensures.1) c.u32_at.ensures (c.new-2.ensures ∙ c.in_ok-names.ensures.1) c.tag_of.ensures) (lawful c.args.file.now c.in_ok-segments.ensures.0)

pub returns : goal.returns
returns c =
    refusal.accepted c.args.file.now c.in_ok-segments.ensures.0 c.in_ok-names.ensures.0
    ∙ ap Ok (program_is c.args.file.now _ _ _ _ (c.new.ensures ∙ c.in_ok-segments.ensures.1) c.u32_at.ensures (c.new-2.ensures ∙ c.in_ok-names.ensures.1) c.tag_of.ensures)
