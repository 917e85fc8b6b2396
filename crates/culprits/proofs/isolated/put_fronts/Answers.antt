use Rattle.std.proofs.Common.{arith}
use Rattle.culprits.specs.Isolated.{IsBefore}
use Rattle.culprits.proofs.Lists.{at_of}
use Rattle.culprits.proofs.Tables.{fronts-all, fronts-next}
use Rattle.culprits.proofs.isolated.put_fronts.Goals as goal

pub returns : goal.returns
returns c = fronts-all c.args.before.now c.loop-found.found-index c.loop-found.table c.args.table.now c.loop-found-test.false c.loop-found.invariant

pub loop-found-preserved : goal.loop-found-preserved
loop-found-preserved c = fronts-next c.args.before.now c.loop-found.found-index (record { object = 0; site = 0; extent = 0 }) c.loop-found.table c.raise_front.new.self c.args.table.now c.front_for.result c.loop-found-test.true c.front_for.ensures c.in_ok-raise_front.ensures.ok c.loop-found.invariant

pub front_for-requires : goal.front_for-requires
front_for-requires c = let before = at_of IsBefore c.args.before.now c.loop-found.found-index (record { object = 0; site = 0; extent = 0 }) c.requires c.loop-found-test.true in omega (arith, before.near)

pub raise_front-requires-clause-least : goal.raise_front-requires-clause-least
raise_front-requires-clause-least c = let before = at_of IsBefore c.args.before.now c.loop-found.found-index (record { object = 0; site = 0; extent = 0 }) c.requires c.loop-found-test.true in omega (arith, before.beyond, c.front_for.ensures)

pub raise_front-requires-clause-most : goal.raise_front-requires-clause-most
raise_front-requires-clause-most c = let before = at_of IsBefore c.args.before.now c.loop-found.found-index (record { object = 0; site = 0; extent = 0 }) c.requires c.loop-found-test.true in omega (arith, before.near, c.front_for.ensures)

pub raise_front-requires-clause-multiple : goal.raise_front-requires-clause-multiple
raise_front-requires-clause-multiple c = omega (arith, c.front_for.ensures)
