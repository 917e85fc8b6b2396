use Rattle.std.proofs.Common.{◌≡◌, ℕ, List, drop}
use Rattle.replicate.specs.Gates.{missing_from}
use Rattle.replicate.specs.Replicas.{Replica}
use Rattle.replicate.specs.Standings.{SeatsAre}
use Rattle.replicate.proofs.votes.first_missing.Given as goal

abbrev pub invariant-loop-i : goal.invariant-loop-i
invariant-loop-i l = (budget : ℕ) (rs : List Replica) → SeatsAre budget rs l.seats → missing_from budget l.i (drop l.i rs) ≡ missing_from budget 0 rs
