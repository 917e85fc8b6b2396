use Rattle.std.proofs.Common.{◌<◌, ◌≤◌, ◌++◌, length, ap, arith}
use Rattle.miniheap.specs.Layout.{minis}
use Rattle.heap_image.specs.Listing.{mini_lines}
use Rattle.heap_image.proofs.Listed.{length-minis, lines_go_on, lines_end}
use Rattle.heap_image.proofs.text.put_minis.Goals as goal

pub loop-number-preserved : goal.loop-number-preserved
loop-number-preserved c =
    let lt : c.loop-number.number < length (minis c.args.places.now) = omega (arith, length-minis c.args.places.now, ap length c.classes-count.ensures.classes) in
    rw c.in_ok-put_mini.ensures (lines_go_on (minis c.args.places.now) c.loop-number.number c.loop-number.out.items (c.args.out.now.items ++ mini_lines 0 (minis c.args.places.now)) lt c.loop-number.invariant)

pub returns : goal.returns
returns c =
    let le : length (minis c.args.places.now) ≤ c.loop-number.number = omega (arith, length-minis c.args.places.now, ap length c.classes-count.ensures.classes) in
    lines_end (minis c.args.places.now) c.loop-number.number c.loop-number.out.items (c.args.out.now.items ++ mini_lines 0 (minis c.args.places.now)) le c.loop-number.invariant
