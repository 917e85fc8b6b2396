use Rattle.std.proofs.Common.{◌≡◌, ◌+◌, ◌-◌, ◌%◌, get_or, inl, inr, subst, ap, ◌∙◌, arith}
use Rattle.std.proofs.lemmas.Bool.{cases_lt}
use Rattle.diefast_canary.proofs.repeat_head.Goals as goal

pub loop-at-preserved : goal.loop-at-preserved
loop-at-preserved c =
    let at = c.loop-at.at in
    let old = c.args.bytes.now in
    let new = c.copy_front.new.bytes in
    let whole : at % 512 ≡ 0 = c.loop-at.invariant.period c.loop-at-test.true in
    record {
      start = omega arith;
      end = omega arith;
      period = λ more. omega arith;
      repeated = λ k low. elim (cases_lt k at) [
        | inl early ↦ c.copy_front.ensures.kept k early ∙ c.loop-at.invariant.repeated k early
        | inr late ↦
            let back : at + (k - at) ≡ k = omega arith in
            let e : (k - at) % 512 ≡ k % 512 = omega arith in
            subst (λ i. get_or new i 0 ≡ get_or old (k % 512) 0) back
            (c.copy_front.ensures.copied (k - at) (omega arith) ∙ c.loop-at.invariant.repeated (k - at) (omega arith) ∙ ap (λ i. get_or old i 0) e)
      ];
    }
