use Rattle.std.proofs.Common.{arith, rules, ◌≡◌, ap, ◌∙◌, ◌+◌, drop, max}
use Rattle.replicate.specs.Groups.{most_behind}
use Rattle.replicate.proofs.Farthest.{behind-end, behind-more}
use Rattle.replicate.proofs.Voting.{placed, placed-end}
use Rattle.replicate.proofs.lead.lead_of.Goals as goal

pub loop-i-preserved : goal.loop-i-preserved
loop-i-preserved c = λ budget rs so.
    let p = placed budget c.loop-i.i rs c.args.seats.now c.index-seats-i.result (omega arith) c.index-seats-i.is so in
    let lead : c.max-lead.result ≡ max c.loop-i.lead c.behind-steps.result = search rules in
    ap (λ m. max m (most_behind budget c.farthest-most.result (drop (c.loop-i.i + 1) rs))) lead ∙ behind-more budget c.loop-i.i c.loop-i.lead c.farthest-most.result c.behind-steps.result rs c.index-seats-i.result p c.behind-steps.ensures (c.loop-i.invariant budget rs so)

pub returns : goal.returns
returns c = λ budget rs so. behind-end budget c.loop-i.i c.loop-i.lead c.farthest-most.result rs (placed-end budget c.loop-i.i rs c.args.seats.now (omega arith) (omega arith) so) (c.loop-i.invariant budget rs so) (c.farthest-most.ensures budget rs so)
