use Rattle.std.proofs.Common.{◌≡◌, max, drop}
use Rattle.replicate.specs.Votes.{largest_of}
use Rattle.replicate.proofs.votes.largest_of.Given as goal

abbrev pub invariant-loop-vote : goal.invariant-loop-vote
invariant-loop-vote l = max l.largest (largest_of l.votes (drop l.vote-index l.votes)) ≡ largest_of l.votes l.votes
