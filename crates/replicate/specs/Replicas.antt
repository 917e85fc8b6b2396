-- A replica on its way to a gate: docs/replicas.md, "Arrivals".
use Rattle.std.specs.Prelude.{ℕ, zero, suc, ◌%◌, ◌==◌, ◌&&◌, Bool, true, nat_le, nat_lt, if◌then◌else◌, List, Option, Some, None, is_some, length}
use Rattle.exact_heap.specs.History.{clock_of}
use Rattle.rv_machine.specs.declared.ended.Ended.{Ended}
use Rattle.rv_machine.specs.declared.ended.Ended.TheVariants.{Exited, Faulted, Roomed}
use Rattle.rv_machine.specs.Core.{Next, Prints}
use Rattle.rv_machine.specs.Flat.{Flat, after_step}
use Rattle.rv_machine.specs.HeapCalls.{GuestNext, Carries, guest_next}
use Rattle.replicate.specs.declared.arrival.Arrival.{Arrival}
use Rattle.replicate.specs.declared.arrival.Arrival.TheVariants as at
use Rattle.replicate.specs.declared.seat.Mark.{Mark}

pub record Replica : Type 0 where
  pub flat : Flat
  -- it has come to a write, which is its next step and is made at the gate
  pub waits : Bool
  -- it still votes
  pub live : Bool
  -- how far it was at the last open gate, or at its start
  pub mark : Mark

-- where a run stands
abbrev pub mark_of : Flat → Mark
mark_of flat = record { steps = flat.guest.core.steps; clock = clock_of flat.guest.history; signals = length flat.guest.history.signals }

-- ---- what it has come to

-- the clocks at which replicas are compared
abbrev pub clock_period : ℕ
clock_period = 1024

abbrev pub is_due : (before clock : ℕ) → Bool
is_due before clock = nat_lt before clock && clock % clock_period == 0

-- the write that the next step makes
abbrev pub write_of : Next → Option Arrival
write_of (Prints fd address len bytes core) = Some (at.Write fd bytes)
write_of next = None

abbrev pub write_next : GuestNext → Option Arrival
write_next (Carries n) = write_of n
write_next next = None

abbrev pub end_of : Ended → Arrival
end_of (Exited code) = at.Exit code
end_of (Faulted kind pc address) = at.Fault kind pc
end_of (Roomed used wanted) = at.Room used wanted

abbrev pub at_budget : (is_used_up : Bool) → Option Arrival
at_budget is_used_up = if is_used_up then Some at.Budget else None

abbrev pub at_end : (budget : ℕ) → Flat → Option Ended → Option Arrival
at_end budget flat (Some ended) = Some (end_of ended)
at_end budget flat None = at_budget (nat_le budget flat.guest.core.steps)

-- What a replica has come to, if it has: a write, or else a multiple of 1,024 objects since the last gate, or else its end.
-- It is a function of its own state.
abbrev pub arrival : (budget : ℕ) → Replica → Option Arrival
arrival budget r =
    if r.waits then write_next (guest_next r.flat.guest)
    else if is_due r.mark.clock (clock_of r.flat.guest.history) then Some at.Clock
    else at_end budget r.flat r.flat.guest.core.ended

abbrev pub has_arrived : (budget : ℕ) → Replica → Bool
has_arrived budget r = is_some (arrival budget r)

-- ---- its way there

-- One more step. A write is come to and not made. What faults, or meets no room, isn't counted.
abbrev pub attempted : (input : List ℕ) → Replica → GuestNext → Replica
attempted input r (Carries (Prints fd address len bytes core)) = record r { waits = true }
attempted input r next = record r { flat = after_step input r.flat next }

abbrev pub attempt : (input : List ℕ) → (budget : ℕ) → Replica → Replica
attempt input budget r = if has_arrived budget r then r else attempted input r (guest_next r.flat.guest)

-- so many more steps, or as many as there are until it has arrived
unfoldable pub onward : (input : List ℕ) → (budget : ℕ) → ℕ → Replica → Replica
onward input budget zero r = r
onward input budget (suc n) r = attempt input budget (onward input budget n r)
