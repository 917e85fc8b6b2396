use Rattle.std.proofs.Common.{◌≡◌, ◌++◌, [], refl, sym, ◌∙◌, arith, take-append-drop}
use Rattle.blind_judge.proofs.Kept.{stored_more}
use Rattle.blind_judge.proofs.heap_cells.HeapCells.store.Goals as goal

pub loop-rest-init : goal.loop-rest-init
loop-rest-init c = (record { done = []; split = refl; kept = λ written h. h }, omega (arith, c.ranges.offset.fits))

pub loop-rest-preserved : goal.loop-rest-preserved
loop-rest-preserved c =
    let (first, place) = c.loop-rest.invariant in
    let piece = c.split_at.result.0.now in
    let others = c.split_at.result.1.now in
    let split : c.loop-rest.rest.now ≡ piece ++ others = sym (take-append-drop c.min-count.result c.loop-rest.rest.now) ∙ cc (c.split_at.ensures.front, c.split_at.ensures.back) in
    stored_more c.args.self.now c.loop-rest.self c.store_in_page.new.self c.args.object c.args.offset c.loop-rest.at c.min-count.result c.args.cells.now c.loop-rest.rest.now piece others
    c.ranges.offset.fits first place split (omega (arith, c.split_at.ensures.front_len)) c.in_ok-store_in_page.ensures.stored
