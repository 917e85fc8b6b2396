-- The loop doubles as the definition does: what is left to find is the same before and after each turn.
use Rattle.std.proofs.Common.{rules, arith, ◌≡◌, ◌-◌, ◌*◌, ◌<◌, ◌≤◌, max, nat_le, ℕ, zero, suc, true, false, refl, sym}
use Rattle.infinite_heap.specs.Covered.{power_from}
use Rattle.blind_judge.proofs.covered.power_of_two_from.Goals as goal

too_small : (power need : ℕ) → power < need → nat_le need power ≡ false
too_small power need less = search (arith, rules)

one_doubling : (power need doublings : ℕ) → power < need → 0 < doublings → power_from (power * 2) need (doublings - 1) ≡ power_from power need doublings
unfolding power_from
one_doubling power need zero less some = omega arith
one_doubling power need (suc n) less some =
    let e : power * 2 ≡ 2 * power = omega arith in
    let d : suc n - 1 ≡ n = omega arith in
    rw (too_small power need less) (rw e (rw d refl))

no_more : (power need doublings : ℕ) → need ≤ power → power_from power need doublings ≡ power
unfolding power_from
no_more power need zero enough = refl
no_more power need (suc n) enough =
    let t : nat_le need power ≡ true = search (arith, rules) in
    rw t refl

pub loop-power-preserved : goal.loop-power-preserved
loop-power-preserved c =
    let less = c.loop-power-test.true in
    let (same, few, some, most) = c.loop-power.invariant in
    let step = one_doubling c.loop-power.power c.max-need.result c.loop-power.doublings less (omega arith) in
    (cc, omega arith, omega arith, omega (arith, c.requires, c.max-need.ensures))

pub returns-clause-same : goal.returns-clause-same
returns-clause-same c =
    let (same, few, some, most) = c.loop-power.invariant in
    let done = no_more c.loop-power.power c.max-need.result c.loop-power.doublings c.loop-power-test.false in
    let need : c.max-need.result ≡ max 1 c.args.size = omega (arith, c.max-need.ensures) in
    rw (sym need) cc
