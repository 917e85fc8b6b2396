use Rattle.replicate.proofs.Turning.{living-settled, retired-settled}
use Rattle.replicate.proofs.turn.is_settled.Goals as goal

pub returns-then-not-seat : goal.returns-then-not-seat
returns-then-not-seat c = λ budget rs so.
    retired-settled budget c.args.i rs c.args.seats.now c.index-seats-i.result c.requires c.index-seats-i.is c.if-not-seat.true so

pub returns-else-not-seat : goal.returns-else-not-seat
returns-else-not-seat c = λ budget rs so.
    living-settled budget c.args.i rs c.args.seats.now c.index-seats-i.result c.has_arrived.result c.requires c.index-seats-i.is c.if-not-seat.false c.has_arrived.ensures.arrived so
