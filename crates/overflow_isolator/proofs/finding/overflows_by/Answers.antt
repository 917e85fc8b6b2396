use Rattle.std.proofs.Common.{◌≡◌, ◌∙◌, ap, sym, subst, map}
use Rattle.std.proofs.lemmas.Result.{IfOk-weaker}
use Rattle.heap_image.specs.Snapshot.{Snapshot}
use Rattle.culprits.specs.declared.found.Overflow.{Overflow}
use Rattle.overflow_isolator.specs.Found.{AreFoundIn}
use Rattle.overflow_isolator.specs.Overflows.{AreOverflowsOf, IsGreatestOverflow}
use Rattle.overflow_isolator.proofs.Exact.{are_overflows}
use Rattle.overflow_isolator.proofs.finding.overflows_by.Goals as goal

pub returns : goal.returns
returns c =
    let es = c.in_ok-found.found.entries in
    let rows : c.deref.result.now ≡ c.args.image.now.rows = c.deref.ensures.value ∙ ap (λ (s : Snapshot). s.rows) (c.first.view_is ∙ c.image-first.ensures) in
    let found = subst (λ rs. AreFoundIn (λ (f : Overflow). f.object) (IsGreatestOverflow c.args.images.now) rs es) rows c.in_ok-found.ensures.found in
    IfOk-weaker c.overflows_in_order.result (λ list. list.items ≡ map (λ e. e.1) es) (λ list. AreOverflowsOf c.args.images.now list.items) (λ list e. subst (AreOverflowsOf c.args.images.now) (sym e) (are_overflows c.args.images.now c.args.image.now es c.requires c.in_ok-found.ensures.rising found)) c.overflows_in_order.ensures
