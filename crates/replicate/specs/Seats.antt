-- What a seat stands for: a replica with its machine, on its way to a gate.
use Rattle.std.specs.Prelude.{◌≡◌, ◌<◌, ℕ, ◌+◌, max, Bool, true, false, List, Option, Some, None, IfSome}
use Rattle.ex_io.specs.Tape.{Track, input as unread}
use Rattle.rv_machine.specs.declared.machine.Machine.{Machine}
use Rattle.rv_machine.specs.HeapCalls.{guest_next}
use Rattle.rv_machine.specs.Stands.{IsAt, tag_in}
use Rattle.layout_run.specs.Advances.{EndsAs, IsToPrint}
use Rattle.layout_run.specs.declared.step.Progress.{Progress}
use Rattle.layout_run.specs.declared.step.Progress.TheVariants as progress
use Rattle.replicate.specs.declared.seat.Mark.{Mark}
use Rattle.replicate.specs.declared.seat.Seat.{Seat}
use Rattle.replicate.specs.Replicas.{Replica}

-- a machine is where this replica is: it goes on, or has come to a write, or has ended
abbrev pub StandsAs : Replica → Option Progress → Machine → (place : ℕ) → Type 0
StandsAs r (Some progress.Going) machine place = (r.waits ≡ false) × IsAt r.flat.guest machine × (r.flat.guest.core.ended ≡ None) × (place ≡ r.flat.place)
StandsAs r (Some (progress.Prints fd address len)) machine place = (r.waits ≡ true) × IsToPrint r.flat (guest_next r.flat.guest) fd address len machine place
StandsAs r (Some (progress.Ended ending)) machine place = (r.waits ≡ false) × IsAt r.flat.guest machine × EndsAs r.flat.guest.core.ended (Some ending) × (place ≡ r.flat.place)
StandsAs r None machine place = ⊥

pub record IsSeatOf (r : Replica) (live : Bool) (mark : Mark) (state : Option Progress) (machine : Machine) (at : ℕ) : Type 0 where
  pub living : live ≡ r.live
  pub marked : mark ≡ r.mark
  pub stands : StandsAs r state machine at

abbrev pub IsSeat : Replica → Seat → Type 0
IsSeat r seat = IsSeatOf r seat.live seat.mark seat.state seat.machine seat.place

-- ---- the tape, which keeps the whole input for all replicas

-- it keeps, no read of it was refused, and it has answered up to this place
pub record IsKept (track : Track) (place : ℕ) : Type 0 where
  pub keep : track.keep ≡ true
  pub going : track.refused ≡ false
  pub known : place < track.high + 1

-- what is there after a replica read on, whose place is `place` now: the input is as it was, and the high place is that
-- of the replica where that is greater
pub record ReadsOn (old new : Track) (left left' : Option (List ℕ)) (place : ℕ) : Type 0 where
  pub kept : IsKept new place
  pub high : new.high ≡ max old.high place
  pub stays : IfSome (unread old left) (λ bytes. unread new left' ≡ Some bytes)

-- ---- what a gate leaves of a seat

-- its place in the input, its budget and its program are as they were
pub record IsSameSeat (old new : Seat) : Type 0 where
  pub place : new.place ≡ old.place
  pub budget : new.budget ≡ old.budget
  pub tag : tag_in new.machine ≡ tag_in old.machine
