-- How a run goes on in its input: docs/guest.md, "The input".
use Rattle.std.specs.Prelude.{◌≡◌, ◌≤◌, ℕ, List, length, Option}
use Rattle.infinite_heap.specs.Loaded.{Loaded}
use Rattle.rv_machine.specs.declared.settings.Settings.{Settings}
use Rattle.layout_run.specs.Runs.{ReachesLimit}
use Rattle.layout_run.specs.Whole.{run_until}

-- its place never goes back
abbrev pub PlacesRise : Type 0
PlacesRise =
    (program : Loaded) (args : List (List ℕ)) (settings : Settings) (input : List ℕ) (stop_at : Option ℕ) (n m : ℕ) → n ≤ m
    → (run_until program args settings input stop_at n).place ≤ (run_until program args settings input stop_at m).place

-- and it is never past the input's end
abbrev pub PlacesAreWithin : Type 0
PlacesAreWithin = (program : Loaded) (args : List (List ℕ)) (settings : Settings) (input : List ℕ) (stop_at : Option ℕ) (n : ℕ) → (run_until program args settings input stop_at n).place ≤ length input

-- so there is one step at most by which it passes the most that is kept
abbrev pub LimitsAreOne : Type 0
LimitsAreOne =
    (program : Loaded) (args : List (List ℕ)) (settings : Settings) (input : List ℕ) (stop_at : Option ℕ) (budget made other : ℕ)
    → ReachesLimit (run_until program args settings input stop_at) budget made → ReachesLimit (run_until program args settings input stop_at) budget other → made ≡ other
