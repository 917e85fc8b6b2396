-- A whole run of a guest, and what it comes to: docs/guest.md, "Whole runs".
use Rattle.std.specs.Prelude.{ℕ, zero, suc, ◌==◌, ◌&&◌, Bool, true, false, not, nat_le, if◌then◌else◌, List, [], ◌∷◌, length}
use Rattle.std.specs.declared.option.Option.{Option}
use Rattle.std.specs.declared.option.Option.TheVariants.{Some, None}
use Rattle.infinite_heap.specs.Loaded.{Loaded}
use Rattle.exact_heap.specs.Calls.{check_end}
use Rattle.exact_heap.specs.History.{History, clock_of, frees_of}
use Rattle.exact_heap.specs.declared.signal.Place.{Place}
use Rattle.exact_heap.specs.declared.signal.Signal.{Signal}
use Rattle.rv_machine.specs.declared.ended.Ended.{Ended}
use Rattle.rv_machine.specs.declared.ended.Ended.TheVariants.{Exited, Faulted, Roomed}
use Rattle.rv_machine.specs.declared.settings.Settings.{Settings}
use Rattle.rv_machine.specs.Flat.{Flat, flat_start, flat_step}
use Rattle.rv_machine.specs.Guest.{heap_of}
use Rattle.layout_run.specs.declared.ran.Ending.{Ending}
use Rattle.layout_run.specs.declared.ran.Ending.TheVariants.{Exit, Fault, Budget, Room, Stopped}
use Rattle.layout_run.specs.declared.ran.Ran.{Ran}

-- the most steps that a run may be given
abbrev pub most_steps : ℕ
most_steps = 1000000000000000

-- so many heap calls were made, the one of this number among them. They are numbered from 1
abbrev pub was_made : (call calls : ℕ) → Bool
was_made call calls = not (call == 0) && nat_le call calls

-- the heap call was made after which the run is to be stopped; with none it isn't
abbrev pub is_stopped : (stop_at : Option ℕ) → History → Bool
is_stopped None h = false
is_stopped (Some call) h = was_made call h.calls

abbrev pub unless_stopped : (is_over : Bool) → (input : List ℕ) → Flat → Flat
unless_stopped true input flat = flat
unless_stopped false input flat = flat_step input flat

-- what is there after so many steps, of which none is made after that heap call
unfoldable pub run_until : Loaded → (args : List (List ℕ)) → Settings → (input : List ℕ) → (stop_at : Option ℕ) → ℕ → Flat
run_until program args settings input stop_at zero = flat_start program args settings
run_until program args settings input stop_at (suc n) =
    unless_stopped (is_stopped stop_at (run_until program args settings input stop_at n).guest.history) input (run_until program args settings input stop_at n)

-- with no end, the budget was used up
abbrev pub ended_as : Option Ended → Ending
ended_as None = Budget
ended_as (Some (Exited code)) = Exit code
ended_as (Some (Faulted kind pc address)) = Fault kind pc address
ended_as (Some (Roomed used wanted)) = Room used wanted

abbrev pub ending_of : (stop_at : Option ℕ) → Flat → Ending
ending_of stop_at flat = if is_stopped stop_at flat.guest.history then Stopped else ended_as flat.guest.core.ended

-- the heap's history at the end: the check at the end is made where the run wasn't stopped
abbrev pub last_history : (stop_at : Option ℕ) → Flat → History
last_history stop_at flat = if is_stopped stop_at flat.guest.history then flat.guest.history else check_end (heap_of flat.guest)

abbrev pub first_place : List Signal → Option Place
first_place [] = None
first_place (signal ∷ signals) = Some signal.place

-- what a run comes to that has this history at its end, without an image
abbrev pub ran_with : Ending → (steps : ℕ) → History → Ran
ran_with ending steps h = record { ending = ending; steps = steps; clock = clock_of h; frees = frees_of h; signals = length h.signals; first = first_place h.signals; image = None }

abbrev pub ran_of : (stop_at : Option ℕ) → Flat → Ran
ran_of stop_at flat = ran_with (ending_of stop_at flat) flat.guest.core.steps (last_history stop_at flat)
