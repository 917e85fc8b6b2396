use Rattle.std.proofs.Common.{◌≡◌, ℕ, List, drop, map}
use Rattle.replicate.specs.Gates.{any_signalled, winners}
use Rattle.replicate.specs.Replicas.{Replica}
use Rattle.replicate.specs.Standings.{SeatsAre}
use Rattle.replicate.specs.Votes.{vote_of}
use Rattle.replicate.proofs.opened.any_signalled.Given as goal

abbrev pub invariant-loop-i : goal.invariant-loop-i
invariant-loop-i l = (budget : ℕ) (rs : List Replica) → SeatsAre budget rs l.seats → l.votes ≡ map (vote_of budget) rs → any_signalled (winners budget l.winner (drop l.i rs)) ≡ any_signalled (winners budget l.winner rs)
