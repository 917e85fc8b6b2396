use Rattle.std.proofs.Common.{arith, subst}
use Rattle.std.specs.Bool.{OnFalse}
use Rattle.diefast_canary.proofs.Vectors.{AreRepeated, intact_block}
use Rattle.diefast_canary.proofs.intact_blocks.Goals as goal

pub loop-at-preserved : goal.loop-at-preserved
loop-at-preserved c =
    let l = c.loop-at in
    let same = subst (λ b. OnFalse b (AreRepeated c.args.bytes.now c.args.lanes l.at 128)) c.if-block_differs.false c.block_differs.ensures in
    record {
      end = omega arith;
      period = omega arith;
      intact = intact_block c.args.word c.args.phase c.args.bytes.now c.args.lanes l.at l.invariant.period l.invariant.intact c.requires.intact same;
    }
