use Rattle.std.proofs.Common.{◌≡◌, ◌++◌, ℕ, List, drop, length, map}
use Rattle.replicate.specs.Replicas.{Replica}
use Rattle.replicate.specs.Standings.{SeatsAre}
use Rattle.replicate.specs.Votes.{vote_of}
use Rattle.replicate.proofs.votes.votes_of.Given as goal

abbrev pub invariant-loop-i : goal.invariant-loop-i
invariant-loop-i l = record {
  voted : (budget : ℕ) (rs : List Replica) → SeatsAre budget rs l.seats → l.votes.items ++ map (vote_of budget) (drop l.i rs) ≡ map (vote_of budget) rs;
  counted : length l.votes.items ≡ l.i;
}
