use Rattle.std.proofs.Common.{arith, rules, ap, ◌∙◌}
use Rattle.replicate.specs.Votes.{vote_of}
use Rattle.replicate.proofs.Voting.{mapped-end, mapped-more, placed, placed-end}
use Rattle.replicate.proofs.votes.votes_of.Goals as goal

pub loop-i-preserved : goal.loop-i-preserved
loop-i-preserved c = record {
  voted = λ budget rs so.
      let p = placed budget c.loop-i.i rs c.args.seats.now c.index-seats-i.result (omega arith) c.index-seats-i.is so in
      mapped-more (vote_of budget) c.loop-i.i rs p.r c.loop-i.votes.items c.push.new.self.items c.in_ok-vote.vote p.splits (c.in_ok-vote.ensures p.r p.stands ∙ ap (λ b. vote_of b p.r) p.budgeted) (c.in_ok-push.ensures.items) (c.loop-i.invariant.voted budget rs so);
  counted = search rules;
}

pub returns-clause-votes : goal.returns-clause-votes
returns-clause-votes c = λ budget rs so. mapped-end (vote_of budget) c.loop-i.i rs _ _ (placed-end budget c.loop-i.i rs c.args.seats.now (omega arith) (omega arith) so) (c.loop-i.invariant.voted budget rs so)
