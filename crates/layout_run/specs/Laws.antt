-- What holds of the signals of a run: docs/heap.md, "Signals".
use Rattle.std.specs.Prelude.{◌≡◌, ℕ, suc, ◌+◌, ◌<◌, ◌≤◌, true, List, length, slice_get, Option, Some}
use Rattle.infinite_heap.specs.Loaded.{Loaded}
use Rattle.rv_memory.specs.Memory.{is_broken}
use Rattle.exact_heap.specs.Calls.{check_end}
use Rattle.exact_heap.specs.History.{no_history, canary_in}
use Rattle.exact_heap.specs.Placing.{byte_at}
use Rattle.exact_heap.specs.declared.signal.Signal.{Signal}
use Rattle.exact_heap.specs.declared.signal.Place.TheVariants.{Call, End}
use Rattle.rv_machine.specs.declared.settings.Settings.{Settings}
use Rattle.rv_machine.specs.Flat.{Flat, flat_run}
use Rattle.rv_machine.specs.Guest.{heap_of}
use Rattle.layout_run.specs.Whole.{run_until}
use Rattle.layout_run.specs.Stored.{IsRun, IsUnowned, WasStored}

-- a run begins with a new heap
abbrev pub Begins : Flat → Type 0
Begins flat = flat.guest.history ≡ no_history flat.guest.history.seed

-- Each broken byte of a slot that no object holds was stored to while none held it; the patches may be raised between
-- steps.
abbrev pub BrokenBytesWereStored : Type 0
BrokenBytesWereStored =
    (input : List ℕ) (states : ℕ → Flat) (n : ℕ) → Begins (states 0) → IsRun input states n
    → (address : ℕ) → IsUnowned (states n) address → is_broken (states n).guest.core.memory (canary_in (states n).guest.history) address ≡ true
    → WasStored input states n address (byte_at (states n).guest.core.memory address)

-- ---- signals

-- the heap call of that number is the step after state k
pub record IsCall (states : ℕ → Flat) (call k : ℕ) : Type 0 where
  pub before : (states k).guest.history.calls + 1 ≡ call
  pub after : (states (suc k)).guest.history.calls ≡ call

-- a signal names its heap call, and the state just after that shows the byte as it was reported: it was stored to, by
-- then, while no object held its slot
pub record IsSound (input : List ℕ) (states : ℕ → Flat) (n : ℕ) (signal : Signal) : Type 0 where
  pub call : ℕ
  pub place : signal.place ≡ Call call
  pub step : ℕ
  pub made : step < n
  pub is_call : IsCall states call step
  pub stored : WasStored input states (suc step) signal.addr signal.byte

-- Each signal of a run's first n steps is sound.
abbrev pub SignalsAreOfStoredBytes : Type 0
SignalsAreOfStoredBytes =
    (input : List ℕ) (states : ℕ → Flat) (n : ℕ) → Begins (states 0) → IsRun input states n
    → (k : ℕ) (signal : Signal) → slice_get (states n).guest.history.signals k ≡ Some signal → IsSound input states n signal

-- Each signal that the check at the end adds is at the end, and its byte was stored to, by then, while no object held
-- its slot.
abbrev pub EndSignalsAreOfStoredBytes : Type 0
EndSignalsAreOfStoredBytes =
    (input : List ℕ) (states : ℕ → Flat) (n : ℕ) → Begins (states 0) → IsRun input states n
    → (k : ℕ) (signal : Signal) → length (states n).guest.history.signals ≤ k → slice_get (check_end (heap_of (states n).guest)).signals k ≡ Some signal
    → (signal.place ≡ End) × WasStored input states n signal.addr signal.byte

-- ---- runs whose patches stay

-- The states of a run whose patches stay are such a run.
abbrev pub RunsGoStepByStep : Type 0
RunsGoStepByStep =
    (program : Loaded) (args : List (List ℕ)) (settings : Settings) (input : List ℕ) (n : ℕ)
    → Begins (flat_run program args settings input 0) × IsRun input (flat_run program args settings input) n

-- a state is that of a run whose patches stay, after so many steps at most
pub record IsAfterSteps (program : Loaded) (args : List (List ℕ)) (settings : Settings) (input : List ℕ) (flat : Flat) (most : ℕ) : Type 0 where
  pub steps : ℕ
  pub within : steps ≤ most
  pub is : flat ≡ flat_run program args settings input steps

-- And so is what a whole run leaves, be it stopped after a heap call or not.
abbrev pub WholeRunsAreRuns : Type 0
WholeRunsAreRuns =
    (program : Loaded) (args : List (List ℕ)) (settings : Settings) (input : List ℕ) (stop_at : Option ℕ) (budget : ℕ)
    → IsAfterSteps program args settings input (run_until program args settings input stop_at budget) budget
