use Rattle.std.proofs.Common.{[]}
use Rattle.std.proofs.lemmas.Result.{err_from_is_err_and}
use Rattle.heap_image.specs.Formats.{class_format}
use Rattle.heap_image.specs.Steps.{items_at}
use Rattle.heap_image.proofs.Loop.{goes_on, ends, is_done}
use Rattle.heap_image.proofs.reading.classes_of.Goals as goal

pub returns-in_err-class : goal.returns-in_err-class
returns-in_err-class c =
    let p = err_from_is_err_and c.from_residual.result c.from_residual.ensures.1 in
    rw (p.1, p.2) (ends c.in_err-class.field-0.0 c.args.whole (class_format c.args.version) c.args.count c.loop.counter c.loop.places c.loop.rest.now (items_at c.args.whole (class_format c.args.version) [] c.args.count c.args.bytes.now) c.loop-test.true c.in_err-class.ensures.gives c.loop.invariant)

pub loop-preserved : goal.loop-preserved
loop-preserved c = rw c.in_ok-places.ensures (goes_on c.args.whole (class_format c.args.version) c.args.count c.loop.counter c.loop.places c.loop.rest.now c.in_ok-class.class c.in_ok-class.after.now (items_at c.args.whole (class_format c.args.version) [] c.args.count c.args.bytes.now) c.loop-test.true c.in_ok-class.ensures.gives c.loop.invariant)

pub returns : goal.returns
returns c = is_done c.args.whole (class_format c.args.version) c.args.count c.loop.counter c.loop.places c.loop.rest.now (items_at c.args.whole (class_format c.args.version) [] c.args.count c.args.bytes.now) c.loop-test.false c.loop.invariant
