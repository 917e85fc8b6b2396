use Rattle.std.proofs.Common.{sym, ◌∙◌}
use Rattle.blind_judge.specs.Flat.{flat_of}
use Rattle.blind_judge.proofs.Numbers.{numbers_step}
use Rattle.blind_judge.proofs.flat.Flat.are_numbers.Goals as goal

pub loop-left-preserved : goal.loop-left-preserved
loop-left-preserved c =
    c.loop-left.invariant ∙ numbers_step (flat_of c.args.self.now) c.loop-left.at c.loop-left.left c.in-Byte.field-0 c.loop-left-test.true (sym c.cell.ensures ∙ c.in-Byte.is)
