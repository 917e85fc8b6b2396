use Rattle.elf_load.proofs.Strings.{ends_there, ends_nowhere}
use Rattle.elf_load.proofs.symbols.names_end.Goals as goal

pub returns-then-strings-end-eq0 : goal.returns-then-strings-end-eq0
returns-then-strings-end-eq0 c = ends_there c.args.strings.now c.loop-end.end c.loop-end.invariant.inside c.if-strings-end-eq0.true c.loop-end.invariant.none

pub returns : goal.returns
returns c = ends_nowhere c.args.strings.now c.loop-end.end c.loop-end-test.false c.loop-end.invariant.none
