-- The image of a run: docs/images.md, "Images of runs".
use Rattle.std.specs.Prelude.{◌≡◌, ℕ, zero, suc, ◌≤◌, Bool, true, false, if◌then◌else◌, List, [], ◌∷◌}
use Rattle.std.specs.List.{AllByRecursion}
use Rattle.std.specs.declared.option.Option.{Option}
use Rattle.std.specs.declared.option.Option.TheVariants.{Some, None}
use Rattle.infinite_heap.specs.Loaded.{Loaded}
use Rattle.exact_heap.specs.declared.signal.Place.{Place}
use Rattle.exact_heap.specs.declared.signal.Place.TheVariants.{Call, End}
use Rattle.exact_heap.specs.declared.signal.Signal.{Signal}
use Rattle.rv_machine.specs.declared.settings.Settings.{Settings}
use Rattle.rv_machine.specs.Flat.{Flat, flat_run}
use Rattle.heap_image.specs.Snapshot.{Snapshot}
use Rattle.heap_image.specs.Taken.{image_of_guest}
use Rattle.layout_run.specs.Stored.{WasStored}
use Rattle.layout_run.specs.Whole.{is_stopped, run_until}
use Rattle.layout_run.specs.declared.ran.Ran.{Ran}

-- of a program's state at a place of its run
abbrev pub image_at : Loaded → Place → Flat → Snapshot
image_at program place flat = image_of_guest program.tag place flat.guest

-- ---- runs that are stopped nowhere

-- this state, where no earlier one was found and it has a signal
abbrev pub if_signalled : List Signal → Flat → Option Flat
if_signalled [] flat = None
if_signalled (signal ∷ signals) flat = Some flat

abbrev pub or_later : Option Flat → Flat → Option Flat
or_later (Some flat) later = Some flat
or_later None later = if_signalled later.guest.history.signals later

-- the state just after the heap call of the run's first signal, where one comes within so many steps
unfoldable pub signalled : Loaded → (args : List (List ℕ)) → Settings → (input : List ℕ) → ℕ → Option Flat
signalled program args settings input zero = None
signalled program args settings input (suc n) = or_later (signalled program args settings input n) (flat_run program args settings input (suc n))

-- the place of the first of these signals
abbrev pub place_of : List Signal → Place
place_of [] = End
place_of (signal ∷ signals) = signal.place

-- of the state with the first signal at its place, or else of the end
abbrev pub image_of_first : Loaded → Option Flat → (last : Flat) → Snapshot
image_of_first program (Some flat) last = image_at program (place_of flat.guest.history.signals) flat
image_of_first program None last = image_at program End last

-- ---- runs that are to be stopped after a heap call

-- of the state just after that call, or of the end where the run ends before it
abbrev pub image_stopped : Loaded → (call : ℕ) → Flat → Snapshot
image_stopped program call flat = image_at program (if is_stopped (Some call) flat.guest.history then Call call else End) flat

-- ---- both

abbrev pub image_of_run : Loaded → (args : List (List ℕ)) → Settings → (input : List ℕ) → (stop_at : Option ℕ) → (budget : ℕ) → Snapshot
image_of_run program args settings input None budget = image_of_first program (signalled program args settings input budget) (flat_run program args settings input budget)
image_of_run program args settings input (Some call) budget = image_stopped program call (run_until program args settings input (Some call) budget)

-- an image is asked for, or it isn't
abbrev pub if_imaged : (imaged : Bool) → Snapshot → Option Snapshot
if_imaged true s = Some s
if_imaged false s = None

abbrev pub with_image : Option Snapshot → Ran → Ran
with_image image ran = record ran { image = image }

-- ---- what an image reports

-- An image is of a state of the run, and each of its broken bytes was stored to, by then, while no object held its slot, and left so.
pub record IsSoundImage (program : Loaded) (args : List (List ℕ)) (settings : Settings) (input : List ℕ) (budget : ℕ) (s : Snapshot) : Type 0 where
  pub steps : ℕ
  pub within : steps ≤ budget
  pub place : Place
  pub is : s ≡ image_at program place (flat_run program args settings input steps)
  pub stored : AllByRecursion (λ b. WasStored input (flat_run program args settings input) steps b.addr b.byte) s.broken

-- Each run's image is sound, be the run stopped after a heap call or not.
abbrev pub ImagesAreSound : Type 0
ImagesAreSound =
    (program : Loaded) (args : List (List ℕ)) (settings : Settings) (input : List ℕ) (stop_at : Option ℕ) (budget : ℕ)
    → IsSoundImage program args settings input budget (image_of_run program args settings input stop_at budget)
