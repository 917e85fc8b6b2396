use Rattle.std.proofs.Common.{arith, rules, ◌≡◌, ap, ◌∙◌, ◌+◌, drop, max}
use Rattle.replicate.specs.Groups.{farthest}
use Rattle.replicate.proofs.Farthest.{farthest-end, farthest-more}
use Rattle.replicate.proofs.Voting.{placed, placed-end}
use Rattle.replicate.proofs.lead.farthest.Goals as goal

pub loop-i-preserved : goal.loop-i-preserved
loop-i-preserved c = λ budget rs so.
    let p = placed budget c.loop-i.i rs c.args.seats.now c.index-seats-i.result (omega arith) c.index-seats-i.is so in
    let most : c.max-most.result ≡ max c.loop-i.most c.ahead-steps.result = search rules in
    ap (λ m. max m (farthest (drop (c.loop-i.i + 1) rs))) most ∙ farthest-more budget c.loop-i.i c.loop-i.most c.ahead-steps.result rs c.index-seats-i.result p c.ahead-steps.ensures (c.loop-i.invariant budget rs so)

pub returns : goal.returns
returns c = λ budget rs so. farthest-end c.loop-i.i c.loop-i.most rs (placed-end budget c.loop-i.i rs c.args.seats.now (omega arith) (omega arith) so) (c.loop-i.invariant budget rs so)
