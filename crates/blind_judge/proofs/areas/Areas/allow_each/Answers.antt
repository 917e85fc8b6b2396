use Rattle.std.proofs.Common.{◌≡◌, sym, ◌∙◌, ap, arith, Some, None, false}
use Rattle.blind_judge.specs.Areas.{area_at, granted, mapping_by, test_of}
use Rattle.blind_judge.proofs.Mapping.{holds_parts, onward, refused_at, test_granted}
use Rattle.blind_judge.proofs.areas.Areas.allow_each.Goals as goal

pub returns-then-not-grants : goal.returns-then-not-grants
returns-then-not-grants c n is =
    let areas = c.args.self.now.items.items in
    let found : area_at areas c.loop-at.at ≡ Some c.in-Some.area = ap (λ l. area_at l c.loop-at.at) (sym c.deref.ensures.value) ∙ sym c.in-Some.ensures.area in
    let here : test_of c.args.purpose (mapping_by areas) c.loop-at.at ≡ false = test_granted c.args.purpose areas c.loop-at.at ∙ ap (granted c.args.purpose) found ∙ sym c.grants.ensures ∙ c.if-not-grants.true in
    sym (refused_at (test_of c.args.purpose (mapping_by areas)) c.args.from c.loop-at.at n c.loop-at.invariant.from (omega arith) c.loop-at.invariant.so_far here)

pub loop-at-preserved : goal.loop-at-preserved
loop-at-preserved c =
    let areas = c.args.self.now.items.items in
    let found : area_at areas c.loop-at.at ≡ Some c.in-Some.area = ap (λ l. area_at l c.loop-at.at) (sym c.deref.ensures.value) ∙ sym c.in-Some.ensures.area in
    let inside = holds_parts c.in-Some.area c.loop-at.at c.in-Some.ensures.holds in
    record {
      from = omega (arith, inside.0, inside.1, c.min-at.ensures, c.end.ensures);
      to = omega (arith, c.min-at.ensures);
      so_far = onward c.args.purpose areas c.args.from c.loop-at.at c.min-at.result c.in-Some.area c.args.self.now.order found (sym c.grants.ensures ∙ c.if-not-grants.false) c.loop-at.invariant.from
          (omega (arith, inside.0, inside.1, c.min-at.ensures, c.end.ensures)) (omega (arith, c.min-at.ensures, c.end.ensures)) c.loop-at.invariant.so_far;
    }

pub returns-in-None : goal.returns-in-None
returns-in-None c n is =
    let areas = c.args.self.now.items.items in
    let found : area_at areas c.loop-at.at ≡ None = ap (λ l. area_at l c.loop-at.at) (sym c.deref.ensures.value) ∙ sym c.in-None.ensures.area in
    let here : test_of c.args.purpose (mapping_by areas) c.loop-at.at ≡ false = test_granted c.args.purpose areas c.loop-at.at ∙ ap (granted c.args.purpose) found in
    sym (refused_at (test_of c.args.purpose (mapping_by areas)) c.args.from c.loop-at.at n c.loop-at.invariant.from (omega arith) c.loop-at.invariant.so_far here)
