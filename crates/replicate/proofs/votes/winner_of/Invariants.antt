use Rattle.std.proofs.Common.{◌≡◌, drop}
use Rattle.replicate.specs.Votes.{winner_of}
use Rattle.replicate.proofs.votes.winner_of.Given as goal

abbrev pub invariant-loop-vote : goal.invariant-loop-vote
invariant-loop-vote l = winner_of l.live l.votes (drop l.vote-index l.votes) ≡ winner_of l.live l.votes l.votes
