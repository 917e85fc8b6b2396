use Rattle.std.proofs.Common.{rules, arith}
use Rattle.rv_memory.proofs.Breaks.{seen-absent, broken-in, intact-in}
use Rattle.rv_memory.proofs.range.Range.break_in_rest.Goals as goal

pub returns-in-Some : goal.returns-in-Some
returns-in-Some c =
    broken-in c.args.self.now c.args.from c.args.end c.args.word c.min-count.result c.in-Some.place _ (seen-absent c.args.self.now c.args.from c.args.end c.min-count.result _ c.lay.new.bytes c.requires.absent (search rules) (search rules) (search rules) (omega arith) (search rules) (search rules)) c.in-Some.ensures.least

pub returns-in-None : goal.returns-in-None
returns-in-None c =
    intact-in c.args.self.now c.args.from c.args.end c.args.word c.min-count.result _ (seen-absent c.args.self.now c.args.from c.args.end c.min-count.result _ c.lay.new.bytes c.requires.absent (search rules) (search rules) (search rules) (omega arith) (search rules) (search rules)) c.in-None.ensures.intact
