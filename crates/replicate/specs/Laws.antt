-- Laws of a replica's way to a gate: docs/replicas.md.
use Rattle.std.specs.Prelude.{◌≡◌, ◌+◌, ℕ, true, List}
use Rattle.replicate.specs.Replicas.{Replica, has_arrived, onward}

-- So it doesn't matter into how many turns its steps are cut.
abbrev pub StepsAddUp : Type 0
StepsAddUp = (input : List ℕ) (budget m n : ℕ) (r : Replica) → onward input budget (m + n) r ≡ onward input budget n (onward input budget m r)

abbrev pub TheArrivedStay : Type 0
TheArrivedStay = (input : List ℕ) (budget n : ℕ) (r : Replica) → has_arrived budget r ≡ true → onward input budget n r ≡ r
