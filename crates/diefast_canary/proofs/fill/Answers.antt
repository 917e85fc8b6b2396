use Rattle.std.proofs.Common.{◌≡◌, ◌+◌, ◌/◌, ◌%◌, ◌^◌, ap, ◌∙◌, arith}
use Rattle.diefast_canary.specs.Canary.{canary_bytes}
use Rattle.diefast_canary.proofs.Canary.{canary_bytes_by_place}
use Rattle.diefast_canary.proofs.fill.Goals as goal

pub returns-then-at-eq-HEAD-clause-whole : goal.returns-then-at-eq-HEAD-clause-whole
returns-then-at-eq-HEAD-clause-whole c =
    canary_bytes_by_place c.args.word c.args.phase c.repeat_head.new.bytes
    (λ k low.
    let e : (c.args.phase + k % 512) % 4 ≡ (c.args.phase + k) % 4 = omega arith in
    c.repeat_head.ensures.repeated k low ∙ c.fill_lanes-at.ensures.filled (k % 512) (omega arith) ∙ ap (λ i. c.args.word / 256 ^ i % 256) e)
    ∙ ap (canary_bytes c.args.word c.args.phase) (omega arith)

pub returns-clause-whole : goal.returns-clause-whole
returns-clause-whole c =
    canary_bytes_by_place c.args.word c.args.phase c.fill_bytes.new.bytes c.fill_bytes.ensures.filled ∙ ap (canary_bytes c.args.word c.args.phase) (omega arith)
