use Rattle.std.proofs.Common.{◌≡◌, sym, ◌∙◌, ap, arith, Some}
use Rattle.blind_judge.specs.Areas.{area_at}
use Rattle.blind_judge.proofs.Mapping.{all_in_area}
use Rattle.blind_judge.proofs.areas.Areas.allow.Goals as goal

pub returns-then-grants : goal.returns-then-grants
returns-then-grants c =
    let areas = c.args.self.now.items.items in
    let found : area_at areas c.args.from ≡ Some c.in-Some.area = ap (λ l. area_at l c.args.from) (sym c.deref.ensures.value) ∙ ap (area_at c.deref.result.now) (sym c.from.ensures) ∙ sym c.in-Some.ensures.area in
    sym (all_in_area c.args.purpose areas c.args.from c.args.len c.in-Some.area c.args.self.now.order found (omega arith) (sym c.grants.ensures ∙ c.if-grants.true))
