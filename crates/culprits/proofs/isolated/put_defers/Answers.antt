use Rattle.culprits.proofs.Tables.{defers-all, defers-next}
use Rattle.culprits.proofs.isolated.put_defers.Goals as goal

pub returns : goal.returns
returns c = defers-all c.args.late.now c.loop-found.found-index c.loop-found.table c.args.table.now c.loop-found-test.false c.loop-found.invariant

pub loop-found-preserved : goal.loop-found-preserved
loop-found-preserved c = defers-next c.args.late.now c.loop-found.found-index (record { object = 0; site = 0; free_site = 0; freed = 0; seen = 0 }) c.loop-found.table c.raise_defer.new.self c.args.table.now c.deferral.result c.loop-found-test.true c.deferral.ensures c.in_ok-raise_defer.ensures.ok c.loop-found.invariant
