use Rattle.std.proofs.Common.{◌≡◌, true, map, sym, ◌∙◌}
use Rattle.replicate.specs.Gates.{any_signalled, image_of, winners}
use Rattle.replicate.proofs.Curing.{cures-joined, cures-mixed, found-of, mixed-of, raised-above}
use Rattle.replicate.proofs.opened.cure.Goals as goal

pub returns-in-None-clause-cures : goal.returns-in-None-clause-cures
returns-in-None-clause-cures c = λ budget tag rs so tags are two.
    let won = winners budget c.args.winner.now rs in
    let signalled : any_signalled won ≡ true = sym (c.any_signalled.ensures budget rs so are) ∙ c.if-not-any_signalled.false in
    let images : c.deref.result.now ≡ map (image_of tag) won = c.deref.ensures.value ∙ c.in_ok-images.ensures budget tag rs so tags are in
    cures-mixed (any_signalled won) c.args.gate (map (image_of tag) won) (record { table = c.args.patches.now; patched = c.args.patched.now.items }) signalled
    (mixed-of c.deref.result.now c.args.patches.now c.in_ok-isolated_at.field-0 tag won c.in-None.is (c.in_ok-isolated_at.ensures {u = tt}) images two)

pub returns-clause-cures : goal.returns-clause-cures
returns-clause-cures c = λ budget tag rs so tags are two.
    let won = winners budget c.args.winner.now rs in
    let signalled : any_signalled won ≡ true = sym (c.any_signalled.ensures budget rs so are) ∙ c.if-not-any_signalled.false in
    let images : c.deref.result.now ≡ map (image_of tag) won = c.deref.ensures.value ∙ c.in_ok-images.ensures budget tag rs so tags are in
    cures-joined c.replace.result (any_signalled won) c.args.gate c.deref.result.now (map (image_of tag) won) c.in-Some.isolated (record { table = c.args.patches.now; patched = c.args.patched.now.items }) (record { table = c.replace.new.patches; patched = c.replace.new.patched.items }) signalled
    (found-of c.deref.result.now c.args.patches.now c.in_ok-isolated_at.field-0 c.in-Some.isolated c.in-Some.is (c.in_ok-isolated_at.ensures {u = tt})) images c.replace.ensures.table c.replace.ensures.listed

pub returns-clause-above : goal.returns-clause-above
returns-clause-above c =
    raised-above c.replace.result c.deref.result.now c.in-Some.isolated c.args.patches.now c.replace.new.patches c.join_is_the_least_above.ensures.above
    (found-of c.deref.result.now c.args.patches.now c.in_ok-isolated_at.field-0 c.in-Some.isolated c.in-Some.is (c.in_ok-isolated_at.ensures {u = tt})) c.replace.ensures.table
