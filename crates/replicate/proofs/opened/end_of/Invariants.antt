use Rattle.std.proofs.Common.{◌≡◌, ℕ, List, drop, map}
use Rattle.replicate.specs.Gates.{end_at, winners}
use Rattle.replicate.specs.Replicas.{Replica}
use Rattle.replicate.specs.Standings.{SeatsAre}
use Rattle.replicate.specs.Votes.{vote_of}
use Rattle.replicate.proofs.opened.end_of.Given as goal

abbrev pub invariant-loop-i : goal.invariant-loop-i
invariant-loop-i l = (budget : ℕ) (rs : List Replica) → SeatsAre budget rs l.seats → l.votes ≡ map (vote_of budget) rs → end_at l.winner (winners budget l.winner (drop l.i rs)) ≡ end_at l.winner (winners budget l.winner rs)
