use Rattle.std.proofs.Common.{◌≡◌, ◌+◌, ◌∙◌, ap, arith}
use Rattle.infinite_heap.specs.ElfFields.{u32_at, sh_offset, sh_size}
use Rattle.infinite_heap.specs.ElfSymbols.{linked}
use Rattle.elf_load.proofs.Linked.{linked_says, linked_place}
use Rattle.elf_load.proofs.symbols.strings_of.Goals as goal

pub u32_at-requires-2 : goal.u32_at-requires-2
u32_at-requires-2 c =
    let l = linked_says c.args.file.now c.args.at c.requires.linked in
    omega (arith, l.link, c.u32_at.ensures, c.requires.sections.inside, c.requires.sections.count c.requires.section.some)

pub split_at-requires : goal.split_at-requires
split_at-requires c =
    let l = linked_says c.args.file.now c.args.at c.requires.linked in
    let place = linked_place c.args.file.now c.args.at _ _ (c.requires.sections.from c.requires.section.some) c.u32_at.ensures in
    let offset : c.u32_at-2.result ≡ sh_offset c.args.file.now (linked c.args.file.now c.args.at) = c.u32_at-2.ensures ∙ ap (λ p. u32_at c.args.file.now (p + 16)) place in
    omega (arith, l.strings, offset)

pub u32_at-requires-3 : goal.u32_at-requires-3
u32_at-requires-3 c =
    let l = linked_says c.args.file.now c.args.at c.requires.linked in
    omega (arith, l.link, c.u32_at.ensures, c.requires.sections.inside, c.requires.sections.count c.requires.section.some)

pub split_at-requires-2 : goal.split_at-requires-2
split_at-requires-2 c =
    let l = linked_says c.args.file.now c.args.at c.requires.linked in
    let place = linked_place c.args.file.now c.args.at _ _ (c.requires.sections.from c.requires.section.some) c.u32_at.ensures in
    let offset : c.u32_at-2.result ≡ sh_offset c.args.file.now (linked c.args.file.now c.args.at) = c.u32_at-2.ensures ∙ ap (λ p. u32_at c.args.file.now (p + 16)) place in
    let size : c.u32_at-3.result ≡ sh_size c.args.file.now (linked c.args.file.now c.args.at) = c.u32_at-3.ensures ∙ ap (λ p. u32_at c.args.file.now (p + 20)) place in
    omega (arith, l.strings, offset, size, c.split_at.ensures.back_len)
