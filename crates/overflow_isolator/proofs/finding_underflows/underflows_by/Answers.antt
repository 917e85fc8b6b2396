use Rattle.std.proofs.Common.{◌≡◌, ◌∙◌, ap, sym, subst, map}
use Rattle.std.proofs.lemmas.Result.{IfOk-weaker}
use Rattle.heap_image.specs.Snapshot.{Snapshot}
use Rattle.culprits.specs.declared.found.Underflow.{Underflow}
use Rattle.overflow_isolator.specs.Found.{AreFoundIn}
use Rattle.overflow_isolator.specs.Overflows.{AreUnderflowsOf, IsGreatestUnderflow}
use Rattle.overflow_isolator.proofs.Exact.{are_underflows}
use Rattle.overflow_isolator.proofs.finding_underflows.underflows_by.Goals as goal

pub returns : goal.returns
returns c =
    let es = c.in_ok-found.found.entries in
    let rows : c.deref.result.now ≡ c.args.image.now.rows = c.deref.ensures.value ∙ ap (λ (s : Snapshot). s.rows) (c.first.view_is ∙ c.image-first.ensures) in
    let found = subst (λ rs. AreFoundIn (λ (f : Underflow). f.object) (IsGreatestUnderflow c.args.images.now) rs es) rows c.in_ok-found.ensures.found in
    IfOk-weaker c.underflows_in_order.result (λ list. list.items ≡ map (λ e. e.1) es) (λ list. AreUnderflowsOf c.args.images.now list.items) (λ list e. subst (AreUnderflowsOf c.args.images.now) (sym e) (are_underflows c.args.images.now c.args.image.now es c.requires c.in_ok-found.ensures.rising found)) c.underflows_in_order.ensures
