use Rattle.std.proofs.Common.{inl, inr}
use Rattle.overflow_isolator.proofs.Apart.{all_unmet, unmet_one, unmet_other}
use Rattle.overflow_isolator.proofs.window.are_apart.Goals as goal

pub walk-preserved-then-far-near-2 : goal.walk-preserved-then-far-near-2
walk-preserved-then-far-near-2 c =
    unmet_other c.args.one.now c.args.other.now c.breaks-ones.result.now c.breaks-others.result.now c.walk.i c.walk.j c.distance_to-far.result c.distance_to-near.result _ _ c.walk-test.true c.if-j-others.true c.distance_to-far.ensures c.distance_to-near.ensures c.if-far-near.false c.walk.invariant c.breaks-ones.ensures.rising c.if-far-near-2.true

pub walk-preserved : goal.walk-preserved
walk-preserved c =
    unmet_one c.args.one.now c.args.other.now c.breaks-ones.result.now c.breaks-others.result.now c.walk.i c.walk.j c.distance_to-far.result c.distance_to-near.result _ _ c.walk-test.true c.if-j-others.true c.distance_to-far.ensures c.distance_to-near.ensures c.if-far-near.false c.walk.invariant c.breaks-others.ensures.rising c.if-far-near-2.false

pub returns-else-j-others : goal.returns-else-j-others
returns-else-j-others c =
    all_unmet c.args.one.now c.args.other.now c.breaks-ones.result.now c.breaks-others.result.now c.walk.i c.walk.j c.breaks-ones.ensures c.breaks-others.ensures c.walk.invariant (inr c.if-j-others.false)

pub returns-after-walk : goal.returns-after-walk
returns-after-walk c =
    all_unmet c.args.one.now c.args.other.now c.breaks-ones.result.now c.breaks-others.result.now c.walk.i c.walk.j c.breaks-ones.ensures c.breaks-others.ensures c.walk.invariant (inl c.walk-test.false)
