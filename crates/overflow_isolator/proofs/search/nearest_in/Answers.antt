use Rattle.std.proofs.Common.{rules, ◌≡◌, ◌+◌, ◌-◌, ◌<◌, ◌≤◌, ℕ, length, arith}
use Rattle.overflow_isolator.proofs.Windows.{nearest_at, none_before, none_near, none_of_any}
use Rattle.overflow_isolator.proofs.search.nearest_in.Goals as goal

inside : (n k : ℕ) → k < n → n - 1 - k < n
inside n k h = omega arith

behind : (n k : ℕ) → k < n → n - k ≡ n - 1 - k + 1
behind n k h = omega arith

pub returns-then-are_broken_back : goal.returns-then-are_broken_back
returns-then-are_broken_back c =
    let n = length c.breaks-breaks.result.now in
    let k = c.loop-k.k in
    nearest_at c.args.windows.now c.args.window.now c.requires c.breaks-breaks.result.now c.breaks-breaks.ensures _ (n - 1 - k) (n - k) c.distance_to-distance.result (inside n k c.loop-k-test.true) (behind n k c.loop-k-test.true) c.loop-k.invariant c.distance_to-distance.ensures c.if-are_broken_back.ensures.broken

pub loop-k-preserved : goal.loop-k-preserved
loop-k-preserved c =
    none_before c.args.windows.now c.args.window.now c.breaks-breaks.result.now c.loop-k.k c.distance_to-distance.result _ c.loop-k-test.true c.distance_to-distance.ensures c.if-are_broken_back.ensures.whole c.loop-k.invariant

pub returns : goal.returns
returns c =
    let ended : length c.breaks-breaks.result.now ≤ c.loop-k.k = search rules in
    none_near c.args.windows.now c.args.window.now c.requires c.breaks-breaks.result.now c.breaks-breaks.ensures (record { addr = 0; byte = 0 })
    (none_of_any c.args.windows.now c.args.window.now c.breaks-breaks.result.now c.loop-k.k ended c.loop-k.invariant)
