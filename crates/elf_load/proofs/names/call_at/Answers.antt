use Rattle.std.proofs.Common.{◌∙◌, ap, take, drop}
use Rattle.infinite_heap.specs.ElfSymbols.{call_of}
use Rattle.elf_load.proofs.Strings.{call_is}
use Rattle.elf_load.proofs.names.call_at.Goals as goal

pub returns : goal.returns
returns c = c.call_of.ensures ∙ ap call_of c.text_of.ensures ∙ call_is c.args.strings.now c.split_at.result.1.now c.split_at-2.result.0.now c.args.start (c.split_at.ensures.back ∙ ap (λ k. drop k c.args.strings.now) c.min.ensures) (c.split_at-2.ensures.front ∙ ap (λ k. take k c.split_at.result.1.now) c.min-2.ensures)
