use Rattle.std.proofs.Common.{rules}
use Rattle.std.proofs.lemmas.List.Elements.{filter_from_retain}
use Rattle.elf_load.specs.Headers.{loads}
use Rattle.elf_load.proofs.header.keep_loads.Goals as goal

pub returns : goal.returns
returns c = filter_from_retain _ loads (λ p x b q r. search rules) _ _ _ c.retain.ensures.filtered
