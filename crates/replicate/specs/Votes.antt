-- Which arrival has the vote: docs/replicas.md, "Groups".
use Rattle.std.specs.Prelude.{◌≡◌, ℕ, suc, ◌*◌, ◌==◌, ◌&&◌, Bool, true, false, nat_lt, max, bytes_eq, if◌then◌else◌, List, [], ◌∷◌, Option, Some, None}
use Rattle.infinite_heap.specs.declared.fault.FaultKind.{FaultKind}
use Rattle.infinite_heap.specs.declared.fault.FaultKind.TheVariants as fault
use Rattle.replicate.specs.declared.arrival.Arrival.{Arrival}
use Rattle.replicate.specs.declared.arrival.Arrival.TheVariants as at
use Rattle.replicate.specs.Replicas.{Replica, arrival}

-- ---- which arrivals are equal

abbrev pub is_same_kind : FaultKind → FaultKind → Bool
is_same_kind fault.Fetch fault.Fetch = true
is_same_kind fault.Illegal fault.Illegal = true
is_same_kind fault.Break fault.Break = true
is_same_kind fault.Jump fault.Jump = true
is_same_kind fault.LoadAlign fault.LoadAlign = true
is_same_kind fault.StoreAlign fault.StoreAlign = true
is_same_kind fault.Load fault.Load = true
is_same_kind fault.Store fault.Store = true
is_same_kind kind other = false

abbrev pub is_same : Arrival → Arrival → Bool
is_same (at.Write fd bytes) (at.Write fd' bytes') = fd == fd' && bytes_eq bytes bytes'
is_same at.Clock at.Clock = true
is_same (at.Exit code) (at.Exit code') = code == code'
is_same (at.Fault kind pc) (at.Fault kind' pc') = is_same_kind kind kind' && pc == pc'
is_same (at.Room used wanted) (at.Room used' wanted') = used == used' && wanted == wanted'
is_same at.Budget at.Budget = true
is_same a other = false

-- ---- votes

-- what a live replica has come to, if it has
abbrev pub vote_of : (budget : ℕ) → Replica → Option Arrival
vote_of budget r = if r.live then arrival budget r else None

abbrev pub is_for : Arrival → Option Arrival → Bool
is_for a None = false
is_for a (Some other) = is_same a other

-- how many of the votes are for this arrival
abbrev pub count_for : Arrival → List (Option Arrival) → ℕ
count_for a [] = 0
count_for a (vote ∷ votes) = if is_for a vote then suc (count_for a votes) else count_for a votes

abbrev pub count_of : Option Arrival → List (Option Arrival) → ℕ
count_of None votes = 0
count_of (Some a) votes = count_for a votes

-- the size of the largest group of equal ones among those that begin the list
abbrev pub largest_of : (all votes : List (Option Arrival)) → ℕ
largest_of all [] = 0
largest_of all (vote ∷ votes) = max (count_of vote all) (largest_of all votes)

-- the arrival that more than half of the live ones have come to, if there is one
abbrev pub winner_of : (live : ℕ) → (all votes : List (Option Arrival)) → Option Arrival
winner_of live all [] = None
winner_of live all (vote ∷ votes) = if nat_lt live (2 * count_of vote all) then vote else winner_of live all votes

-- Arrivals are the same exactly where they are equal.
abbrev pub SameIsEqual : Type 0
SameIsEqual = (a b : Arrival) → (is_same a b ≡ true → a ≡ b) × (a ≡ b → is_same a b ≡ true)
