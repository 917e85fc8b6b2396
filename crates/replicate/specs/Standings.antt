-- What the seats of a group stand for.
use Rattle.std.specs.Prelude.{◌≡◌, ◌<◌, ℕ, zero, suc, ◌+◌, Bool, true, false, not, ◌||◌, List, [], ◌∷◌, Option, Some, IfSome}
use Rattle.std.specs.List.{AllByRecursion}
use Rattle.ex_io.specs.Tape.{Track, input as unread}
use Rattle.replicate.specs.Replicas.{Replica, has_arrived}
use Rattle.replicate.specs.Seats.{IsSameSeat, IsSeat}
use Rattle.replicate.specs.declared.seat.Seat.{Seat}

-- each seat is one of the replicas, in their order, and has their budget
abbrev pub SeatsAre : (budget : ℕ) → List Replica → List Seat → Type 0
SeatsAre budget [] [] = Unit {0}
SeatsAre budget (r ∷ rs) (seat ∷ seats) = IsSeat r seat × (seat.budget ≡ budget) × SeatsAre budget rs seats
SeatsAre budget rs seats = ⊥

-- replica i has arrived or is retired
abbrev pub is_settled : (budget : ℕ) → Replica → Bool
is_settled budget r = not r.live || has_arrived budget r

abbrev pub is_settled_at : (budget i : ℕ) → List Replica → Bool
is_settled_at budget i [] = false
is_settled_at budget zero (r ∷ rs) = is_settled budget r
is_settled_at budget (suc i) (r ∷ rs) = is_settled_at budget i rs

-- ---- the tape, which keeps the whole input for all replicas

-- a replica's place in the input
abbrev pub place_at : ℕ → List Seat → ℕ
place_at i [] = 0
place_at zero (seat ∷ seats) = seat.place
place_at (suc i) (seat ∷ seats) = place_at i seats

-- a tape has answered up to this place
abbrev pub IsAnswered : Track → Seat → Type 0
IsAnswered track seat = seat.place < track.high + 1

-- it keeps, no read of it was refused, and it has answered up to each replica's place
pub record AreKept (track : Track) (seats : List Seat) : Type 0 where
  pub keep : track.keep ≡ true
  pub going : track.refused ≡ false
  pub known : AllByRecursion (IsAnswered track) seats

-- the input is as it was
abbrev pub IsSameInput : (old new : Track) → (left left' : Option (List ℕ)) → Type 0
IsSameInput old new left left' = IfSome (unread old left) (λ bytes. unread new left' ≡ Some bytes)

-- ---- what a gate leaves of the seats

abbrev pub AreSameSeats : (old new : List Seat) → Type 0
AreSameSeats [] [] = Unit {0}
AreSameSeats (seat ∷ seats) (seat' ∷ seats') = IsSameSeat seat seat' × AreSameSeats seats seats'
AreSameSeats old new = ⊥
