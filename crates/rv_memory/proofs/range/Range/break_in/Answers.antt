use Rattle.std.proofs.Common.{rules, arith}
use Rattle.rv_memory.proofs.Breaks.{seen-made, broken-in, intact-in}
use Rattle.rv_memory.proofs.range.Range.break_in.Goals as goal

pub returns-in-Some : goal.returns-in-Some
returns-in-Some c =
    let first = rw (c.from.ensures, c.deref.ensures.value) at c.in-Some.ensures.least in
    broken-in c.args.self.now c.args.from c.args.end c.args.word c.min-count.result c.in-Some.place _ (seen-made c.args.self.now c.args.from c.args.end c.min-count.result _ c.requires.held c.requires.more (search rules) (search rules) (omega arith)) first

pub returns-in-None : goal.returns-in-None
returns-in-None c =
    let intact = rw (c.from.ensures, c.deref.ensures.value) at c.in-None.ensures.intact in
    intact-in c.args.self.now c.args.from c.args.end c.args.word c.min-count.result _ (seen-made c.args.self.now c.args.from c.args.end c.min-count.result _ c.requires.held c.requires.more (search rules) (search rules) (omega arith)) intact
