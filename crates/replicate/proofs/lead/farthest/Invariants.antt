use Rattle.std.proofs.Common.{◌≡◌, ℕ, List, drop, max}
use Rattle.replicate.specs.Groups.{farthest}
use Rattle.replicate.specs.Replicas.{Replica}
use Rattle.replicate.specs.Standings.{SeatsAre}
use Rattle.replicate.proofs.lead.farthest.Given as goal

abbrev pub invariant-loop-i : goal.invariant-loop-i
invariant-loop-i l = (budget : ℕ) (rs : List Replica) → SeatsAre budget rs l.seats → max l.most (farthest (drop l.i rs)) ≡ farthest rs
