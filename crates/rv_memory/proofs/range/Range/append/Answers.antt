use Rattle.std.proofs.Common.{arith}
use Rattle.rv_memory.proofs.range.Range.append.Goals as goal

pub overflow_add-self : goal.overflow_add-self
overflow_add-self c = let ends = c.args.more.now.ends in omega (arith, ends, c.requires.behind, c.requires.above)
