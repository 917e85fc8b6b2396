use Rattle.std.proofs.Common.{[]}
use Rattle.std.proofs.lemmas.Result.{err_from_is_err_and}
use Rattle.heap_image.specs.Formats.{broken_format}
use Rattle.heap_image.specs.Steps.{items_at}
use Rattle.heap_image.proofs.Loop.{goes_on, ends, is_done}
use Rattle.heap_image.proofs.reading.breaks_from.Goals as goal

pub returns-in_err-broken : goal.returns-in_err-broken
returns-in_err-broken c =
    let p = err_from_is_err_and c.from_residual.result c.from_residual.ensures.1 in
    rw (p.1, p.2) (ends c.in_err-broken.field-0.0 c.args.whole (broken_format c.args.seed c.args.places.now c.args.rows.now) c.args.count c.loop.counter c.loop.breaks c.loop.rest.now (items_at c.args.whole (broken_format c.args.seed c.args.places.now c.args.rows.now) [] c.args.count c.args.bytes.now) c.loop-test.true c.in_err-broken.ensures c.loop.invariant)

pub loop-preserved : goal.loop-preserved
loop-preserved c = rw c.in_ok-breaks.ensures (goes_on c.args.whole (broken_format c.args.seed c.args.places.now c.args.rows.now) c.args.count c.loop.counter c.loop.breaks c.loop.rest.now c.in_ok-broken.broken c.in_ok-broken.after.now (items_at c.args.whole (broken_format c.args.seed c.args.places.now c.args.rows.now) [] c.args.count c.args.bytes.now) c.loop-test.true c.in_ok-broken.ensures c.loop.invariant)

pub returns : goal.returns
returns c = is_done c.args.whole (broken_format c.args.seed c.args.places.now c.args.rows.now) c.args.count c.loop.counter c.loop.breaks c.loop.rest.now (items_at c.args.whole (broken_format c.args.seed c.args.places.now c.args.rows.now) [] c.args.count c.args.bytes.now) c.loop-test.false c.loop.invariant
