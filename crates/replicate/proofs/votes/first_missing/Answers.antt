use Rattle.std.proofs.Common.{arith, ap, sym, ◌∙◌}
use Rattle.replicate.specs.Gates.{missing_from}
use Rattle.replicate.proofs.Voting.{arrived-here, missing-here, placed, placed-end, retired-here}
use Rattle.replicate.proofs.votes.first_missing.Goals as goal
use Rattle.replicate.proofs.votes.first_missing.Goals.{else-seat-via-then-seat+else-not-has_arrived, else-seat-via-else-seat}

pub returns-then-not-has_arrived : goal.returns-then-not-has_arrived
returns-then-not-has_arrived c = λ budget rs so.
    let p = placed budget c.loop-i.i rs c.args.seats.now c.index-seats-i.result (omega arith) c.index-seats-i.is so in
    sym (missing-here budget c.loop-i.i rs c.index-seats-i.result c.has_arrived.result p c.if-seat.true c.has_arrived.ensures.arrived c.if-not-has_arrived.true) ∙ c.loop-i.invariant budget rs so

pub loop-i-preserved : goal.loop-i-preserved
loop-i-preserved c = λ budget rs so.
    let p = placed budget c.loop-i.i rs c.args.seats.now c.index-seats-i.result (omega arith) c.index-seats-i.is so in
    elim c.else-seat.branch [
      | else-seat-via-then-seat+else-not-has_arrived w ↦ sym (arrived-here budget c.loop-i.i rs c.index-seats-i.result w.has_arrived.result p w.if-seat.true w.has_arrived.ensures.arrived w.if-not-has_arrived.false) ∙ c.loop-i.invariant budget rs so
      | else-seat-via-else-seat w ↦ sym (retired-here budget c.loop-i.i rs c.index-seats-i.result p w.if-seat.false) ∙ c.loop-i.invariant budget rs so
    ]

pub returns : goal.returns
returns c = λ budget rs so. ap (missing_from budget c.loop-i.i) (sym (placed-end budget c.loop-i.i rs c.args.seats.now (omega arith) (omega arith) so)) ∙ c.loop-i.invariant budget rs so
