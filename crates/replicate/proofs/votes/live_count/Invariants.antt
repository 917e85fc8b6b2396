use Rattle.std.proofs.Common.{◌≡◌, ◌+◌, ◌≤◌, ℕ, List, drop}
use Rattle.replicate.specs.Gates.{live_count}
use Rattle.replicate.specs.Replicas.{Replica}
use Rattle.replicate.specs.Standings.{SeatsAre}
use Rattle.replicate.proofs.votes.live_count.Given as goal

abbrev pub invariant-loop-i : goal.invariant-loop-i
invariant-loop-i l = record {
  counted : (budget : ℕ) (rs : List Replica) → SeatsAre budget rs l.seats → l.count + live_count (drop l.i rs) ≡ live_count rs;
  few : l.count ≤ l.i;
}
