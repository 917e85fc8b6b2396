-- How a run is watched for the state that its image is of: docs/images.md, "Images of runs".
use Rattle.std.specs.Prelude.{◌≡◌, ℕ, max, Bool, true, false, if◌then◌else◌, List, [], ◌∷◌, Option, None, Some, Result, Ok, Err}
use Rattle.std.specs.Io.KnownBytes.{Appends}
use Rattle.ex_io.specs.Causes.{AppendsFront}
use Rattle.ex_io.specs.Tape.{Track}
use Rattle.infinite_heap.specs.Loaded.{Loaded}
use Rattle.exact_heap.specs.Calls.{check_end}
use Rattle.exact_heap.specs.declared.signal.Place.{Place}
use Rattle.exact_heap.specs.declared.signal.Place.TheVariants.{Call, End}
use Rattle.exact_heap.specs.declared.signal.Signal.{Signal}
use Rattle.rv_machine.specs.declared.machine.Machine.{Machine}
use Rattle.rv_machine.specs.declared.settings.Settings.{Settings}
use Rattle.rv_machine.specs.Flat.{Flat}
use Rattle.rv_machine.specs.Guest.{Guest, heap_of}
use Rattle.rv_machine.specs.Stands.{IsAt, tag_in}
use Rattle.heap_image.specs.Snapshot.{Snapshot}
use Rattle.heap_image.specs.Taken.{image_of_guest}
use Rattle.layout_run.specs.Imaged.{image_at, place_of, signalled, with_image}
use Rattle.layout_run.specs.Outside.{Held}
use Rattle.layout_run.specs.Runs.{MayFail}
use Rattle.layout_run.specs.Whole.{ending_of, ran_with, run_until}
use Rattle.layout_run.specs.declared.ran.Ending.{Ending}
use Rattle.layout_run.specs.declared.ran.Ending.TheVariants.{Stopped}
use Rattle.layout_run.specs.declared.ran.Ran.{Ran}
use Rattle.layout_run.specs.declared.ran.RunRefusal.{RunRefusal}

-- ---- the first signal

-- an image is asked for that is of the first signal's state, where there is one
abbrev pub by_signal : (imaged : Bool) → (stop_at : Option ℕ) → Bool
by_signal imaged None = imaged
by_signal imaged (Some call) = false

-- the image of a guest with a signal, at the place of the first
abbrev pub image_by_signal : (tag : ℕ) → List Signal → Guest → Option Snapshot
image_by_signal tag [] g = None
image_by_signal tag (signal ∷ signals) g = Some (image_of_guest tag signal.place g)

-- what is taken by this guest, and what was before it
abbrev pub taken_after : (watches : Bool) → Option Snapshot → (tag : ℕ) → Guest → Option Snapshot
taken_after false taken tag g = taken
taken_after true (Some s) tag g = Some s
taken_after true None tag g = image_by_signal tag g.history.signals g

-- what is taken of a run by the state that was found in it
abbrev pub taken_by : (watches : Bool) → Loaded → Option Flat → Option Snapshot
taken_by false program found = None
taken_by true program None = None
taken_by true program (Some flat) = Some (image_at program (place_of flat.guest.history.signals) flat)

-- ---- the end

abbrev pub is_stop : Ending → Bool
is_stop Stopped = true
is_stop ending = false

-- where a run is that has ended so
abbrev pub place_at_end : (stop_at : Option ℕ) → Ending → Place
place_at_end None ending = End
place_at_end (Some call) ending = if is_stop ending then Call call else End

-- the image of a run: what was taken of it, or else that of its last state
abbrev pub last_image : (imaged : Bool) → Option Snapshot → (tag : ℕ) → Place → Guest → Option Snapshot
last_image false taken tag place g = None
last_image true (Some s) tag place g = Some s
last_image true None tag place g = Some (image_of_guest tag place g)

-- what a run comes to that has ended so: the check at the end is made where it wasn't stopped
abbrev pub ran_to : Ending → Option Snapshot → Guest → Ran
ran_to ending image g = with_image image (ran_with ending g.core.steps (if is_stop ending then g.history else check_end (heap_of g)))

-- ---- the whole run

-- a run was carried on to its end, or cut short
pub record IsAtEnd (program : Loaded) (args : List (List ℕ)) (settings : Settings) (input : List ℕ) (stop_at : Option ℕ) (budget : ℕ) (watches : Bool) (answer : Ending) (machine : Machine) (image : Option Snapshot) (old new : Track) (start now : Held) : Type 0 where
  pub at : IsAt (run_until program args settings input stop_at budget).guest machine
  pub tag : tag_in machine ≡ program.tag
  pub ending : answer ≡ ending_of stop_at (run_until program args settings input stop_at budget)
  pub taken : image ≡ taken_by watches program (signalled program args settings input budget)
  pub high : new.high ≡ max old.high (run_until program args settings input stop_at budget).place
  pub out : Appends start.out now.out (run_until program args settings input stop_at budget).out
  pub err : Appends start.err now.err (run_until program args settings input stop_at budget).err

abbrev pub RunsToEnd : Loaded → (args : List (List ℕ)) → Settings → (input : List ℕ) → (stop_at : Option ℕ) → (budget : ℕ) → (watches : Bool) → Result Ending RunRefusal → Machine → (taken : Option Snapshot) → (old new : Track) → (start now : Held) → Type 0
RunsToEnd program args settings input stop_at budget watches (Ok ending) machine taken old new start now = IsAtEnd program args settings input stop_at budget watches ending machine taken old new start now
RunsToEnd program args settings input stop_at budget watches (Err refused) machine taken old new start now =
    AppendsFront start.out now.out (run_until program args settings input stop_at budget).out × AppendsFront start.err now.err (run_until program args settings input stop_at budget).err
    × MayFail refused (run_until program args settings input stop_at budget)
