use Rattle.std.proofs.Common.{rules, ◌≡◌, subst, sym, ◌∙◌, map}
use Rattle.std.proofs.lemmas.Result.{IfOk-weaker}
use Rattle.dangling_isolator.specs.Danglings.{AreDanglings, greatest_clock}
use Rattle.dangling_isolator.specs.Marks.{AreByObject, common_in}
use Rattle.dangling_isolator.proofs.Exact.{are_danglings}
use Rattle.dangling_isolator.proofs.finding.found.Goals as goal

pub returns : goal.returns
returns c =
    let es = c.in_ok-found.found.entries in
    let marks : c.deref.result.now ≡ common_in c.args.images.now = c.deref.ensures.value ∙ c.in_ok-marks.ensures in
    let by : AreByObject (greatest_clock c.args.images.now) (common_in c.args.images.now) es =
    subst (λ n. AreByObject n (common_in c.args.images.now) es) c.greatest_clock-seen.ensures (subst (λ ms. AreByObject c.greatest_clock-seen.result ms es) marks c.in_ok-found.ensures) in
    IfOk-weaker c.in_order.result (λ list. list.items ≡ map (λ e. e.1) es) (λ list. AreDanglings c.args.images.now list.items) (λ list e. subst (AreDanglings c.args.images.now) (sym e) (are_danglings c.args.images.now c.index-images-0.result es c.requires (search rules) by)) c.in_order.ensures
