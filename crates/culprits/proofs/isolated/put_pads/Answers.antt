use Rattle.std.proofs.Common.{arith}
use Rattle.culprits.specs.Isolated.{IsPast}
use Rattle.culprits.proofs.Lists.{at_of}
use Rattle.culprits.proofs.Tables.{pads-all, pads-next}
use Rattle.culprits.proofs.isolated.put_pads.Goals as goal

pub returns : goal.returns
returns c = pads-all c.args.past.now c.loop-found.found-index c.loop-found.table c.args.table.now c.loop-found-test.false c.loop-found.invariant

pub loop-found-preserved : goal.loop-found-preserved
loop-found-preserved c = pads-next c.args.past.now c.loop-found.found-index (record { object = 0; site = 0; size = 0; extent = 0 }) c.loop-found.table c.raise_pad.new.self c.args.table.now c.loop-found-test.true c.in_ok-raise_pad.ensures.ok c.loop-found.invariant

pub raise_pad-requires-clause-least : goal.raise_pad-requires-clause-least
raise_pad-requires-clause-least c = let past = at_of IsPast c.args.past.now c.loop-found.found-index (record { object = 0; site = 0; size = 0; extent = 0 }) c.requires c.loop-found-test.true in omega (arith, past.beyond)

pub raise_pad-requires-clause-most : goal.raise_pad-requires-clause-most
raise_pad-requires-clause-most c = let past = at_of IsPast c.args.past.now c.loop-found.found-index (record { object = 0; site = 0; size = 0; extent = 0 }) c.requires c.loop-found-test.true in omega (arith, past.near)
