use Rattle.std.proofs.Common.{take, ap, ◌∙◌}
use Rattle.rv_machine.specs.Core.{memory_in}
use Rattle.rv_machine.specs.Laid.{with_segment}
use Rattle.rv_memory.specs.Memory.{is_unmapped}
use Rattle.rv_machine.proofs.Laid.{free, grown, below-at, one-more}
use Rattle.rv_machine.proofs.memory.map_segments.Goals as goal

pub map_segment-requires-clause-unmapped : goal.map_segment-requires-clause-unmapped
map_segment-requires-clause-unmapped c =
    let s = c.segment-item.result in
    let below = below-at c.args.segments.now c.loop-segment.segment-index s c.requires.apart c.loop-segment-test.true c.segment-item.is in
    ap (λ m. is_unmapped m s.from s.len) c.loop-segment.invariant ∙ free (take c.loop-segment.segment-index c.args.segments.now) s below

pub loop-segment-preserved : goal.loop-segment-preserved
loop-segment-preserved c =
    let s = c.segment-item.result in
    let below = below-at c.args.segments.now c.loop-segment.segment-index s c.requires.apart c.loop-segment-test.true c.segment-item.is in
    c.in_ok-map_segment.ensures {u = tt} ∙ ap (λ m. with_segment m s) c.loop-segment.invariant ∙ grown (take c.loop-segment.segment-index c.args.segments.now) s below ∙ ap memory_in (one-more c.args.segments.now c.loop-segment.segment-index s c.loop-segment-test.true c.segment-item.is)
