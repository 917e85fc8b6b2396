use Rattle.std.proofs.Common.{◌≡◌, ◌++◌, ℕ, List, drop, map}
use Rattle.replicate.specs.Gates.{losers_from}
use Rattle.replicate.specs.Replicas.{Replica}
use Rattle.replicate.specs.Standings.{SeatsAre}
use Rattle.replicate.specs.Votes.{vote_of}
use Rattle.replicate.proofs.settled.list_losers.Given as goal

abbrev pub invariant-loop-i : goal.invariant-loop-i
invariant-loop-i l = (budget : ℕ) (rs : List Replica) → SeatsAre budget rs l.seats → l.votes ≡ map (vote_of budget) rs
    → l.retired.items ++ losers_from budget l.winner l.gate l.i (drop l.i rs) ≡ l.fn.retired.items ++ losers_from budget l.winner l.gate 0 rs
