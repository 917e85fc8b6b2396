use Rattle.std.proofs.Common.{arith}
use Rattle.replicate.proofs.Voting.{living-end, living-more, placed, placed-end, retired-more}
use Rattle.replicate.proofs.votes.live_count.Goals as goal
use Rattle.replicate.proofs.votes.live_count.Goals.{then-seat, else-seat}

pub loop-i-preserved : goal.loop-i-preserved
loop-i-preserved c = record {
  counted = λ budget rs so.
      let p = placed budget c.loop-i.i rs c.args.seats.now c.index-seats-i.result (omega arith) c.index-seats-i.is so in
      elim c.if-seat.branch [
        | then-seat w ↦ simp w.count-is (living-more budget c.loop-i.i c.loop-i.count rs c.index-seats-i.result p w.if-seat.true (c.loop-i.invariant.counted budget rs so))
        | else-seat w ↦ simp w.count-is (retired-more budget c.loop-i.i c.loop-i.count rs c.index-seats-i.result p w.if-seat.false (c.loop-i.invariant.counted budget rs so))
      ];
  few = elim c.if-seat.branch [ then-seat w ↦ omega arith | else-seat w ↦ omega arith ];
}

pub returns : goal.returns
returns c = λ budget rs so. living-end c.loop-i.i c.loop-i.count rs (placed-end budget c.loop-i.i rs c.args.seats.now (omega arith) (omega arith) so) (c.loop-i.invariant.counted budget rs so)
