use Rattle.std.proofs.Common.{[]}
use Rattle.std.proofs.lemmas.Result.{err_from_is_err_and}
use Rattle.heap_image.specs.Formats.{row_format}
use Rattle.heap_image.specs.Steps.{items_at}
use Rattle.heap_image.proofs.Loop.{goes_on, ends, is_done}
use Rattle.heap_image.proofs.reading.rows_from.Goals as goal

pub returns-in_err-row : goal.returns-in_err-row
returns-in_err-row c =
    let p = err_from_is_err_and c.from_residual.result c.from_residual.ensures.1 in
    rw (p.1, p.2) (ends c.in_err-row.field-0.0 c.args.whole (row_format c.args.version c.args.places.now c.args.clock) c.args.count c.loop.counter c.loop.rows c.loop.rest.now (items_at c.args.whole (row_format c.args.version c.args.places.now c.args.clock) [] c.args.count c.args.bytes.now) c.loop-test.true c.in_err-row.ensures c.loop.invariant)

pub loop-preserved : goal.loop-preserved
loop-preserved c = rw c.in_ok-rows.ensures (goes_on c.args.whole (row_format c.args.version c.args.places.now c.args.clock) c.args.count c.loop.counter c.loop.rows c.loop.rest.now c.in_ok-row.row c.in_ok-row.after.now (items_at c.args.whole (row_format c.args.version c.args.places.now c.args.clock) [] c.args.count c.args.bytes.now) c.loop-test.true c.in_ok-row.ensures c.loop.invariant)

pub returns : goal.returns
returns c = is_done c.args.whole (row_format c.args.version c.args.places.now c.args.clock) c.args.count c.loop.counter c.loop.rows c.loop.rest.now (items_at c.args.whole (row_format c.args.version c.args.places.now c.args.clock) [] c.args.count c.args.bytes.now) c.loop-test.false c.loop.invariant
