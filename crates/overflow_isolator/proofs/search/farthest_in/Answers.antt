use Rattle.std.proofs.Common.{rules, ◌≤◌, length}
use Rattle.overflow_isolator.proofs.Windows.{farthest_at, none_behind, none_near, none_of_all}
use Rattle.overflow_isolator.proofs.search.farthest_in.Goals as goal

pub returns-then-are_broken_back : goal.returns-then-are_broken_back
returns-then-are_broken_back c =
    farthest_at c.args.windows.now c.args.window.now c.requires c.breaks-breaks.result.now c.breaks-breaks.ensures _ c.loop-byte.byte-index c.distance_to-distance.result c.loop-byte-test.true c.loop-byte.invariant c.distance_to-distance.ensures c.if-are_broken_back.ensures.broken

pub loop-byte-preserved : goal.loop-byte-preserved
loop-byte-preserved c =
    none_behind c.args.windows.now c.args.window.now c.breaks-breaks.result.now c.loop-byte.byte-index c.distance_to-distance.result _ c.distance_to-distance.ensures c.if-are_broken_back.ensures.whole c.loop-byte.invariant

pub returns : goal.returns
returns c =
    let ended : length c.breaks-breaks.result.now ≤ c.loop-byte.byte-index = search rules in
    none_near c.args.windows.now c.args.window.now c.requires c.breaks-breaks.result.now c.breaks-breaks.ensures (record { addr = 0; byte = 0 })
    (none_of_all c.args.windows.now c.args.window.now c.breaks-breaks.result.now c.loop-byte.byte-index ended c.loop-byte.invariant)
