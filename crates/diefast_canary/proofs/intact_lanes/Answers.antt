use Rattle.std.proofs.Common.{arith, subst}
use Rattle.std.specs.Bool.{OnFalse}
use Rattle.diefast_canary.proofs.Vectors.{AreLanes, intact_on}
use Rattle.diefast_canary.proofs.intact_lanes.Goals as goal

pub loop-at-preserved : goal.loop-at-preserved
loop-at-preserved c =
    let l = c.loop-at in
    let same = subst (λ b. OnFalse b (AreLanes c.args.bytes.now c.args.lanes l.at 32)) c.if-differs.false c.differs.ensures in
    record {
      end = omega arith;
      period = omega arith;
      intact = intact_on c.args.word c.args.phase c.args.bytes.now c.args.lanes l.at 32 l.invariant.period l.invariant.intact c.requires.lanes same;
    }
