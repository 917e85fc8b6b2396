use Rattle.std.proofs.Common.{◌≡◌, ◌+◌, ◌≤◌, drop}
use Rattle.replicate.specs.Votes.{count_for}
use Rattle.replicate.proofs.votes.count_for.Given as goal

abbrev pub invariant-loop-vote : goal.invariant-loop-vote
invariant-loop-vote l = record {
  counted : l.count + count_for l.a (drop l.vote-index l.votes) ≡ count_for l.a l.votes;
  few : l.count ≤ l.vote-index;
}
