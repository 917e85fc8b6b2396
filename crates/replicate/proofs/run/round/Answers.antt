use Rattle.layout_run.specs.Outside.{held}
use Rattle.replicate.specs.Standings.{AreKept}
use Rattle.replicate.proofs.Way.{on-any}
use Rattle.replicate.proofs.run.round.Goals as goal

pub returns-in-Ok-clause-kept : goal.returns-in-Ok-clause-kept
returns-in-Ok-clause-kept g c = on-any c.pass.result (AreKept c.turns.new.tape c.pass.new.group.seats.items) (c.pass.ensures.places c.turns.new.tape c.in-Ok.ensures.kept)

pub returns-in-Err-clause-way : goal.returns-in-Err-clause-way
returns-in-Err-clause-way g c = λ bytes start first before tells way.
    c.in-Err.ensures.way bytes start first before (held (g.O.Sink.held c.args.out.now) (g.E.Sink.held c.args.err.now)) tells way
