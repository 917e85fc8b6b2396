use Rattle.std.proofs.Common.{◌≡◌, ℕ, List, drop, max}
use Rattle.replicate.specs.Groups.{most_behind}
use Rattle.replicate.specs.Replicas.{Replica}
use Rattle.replicate.specs.Standings.{SeatsAre}
use Rattle.replicate.proofs.lead.lead_of.Given as goal

abbrev pub invariant-loop-i : goal.invariant-loop-i
invariant-loop-i l = (budget : ℕ) (rs : List Replica) → SeatsAre budget rs l.seats → max l.lead (most_behind budget l.most (drop l.i rs)) ≡ most_behind budget l.most rs
