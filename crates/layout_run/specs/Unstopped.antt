-- What holds of a run that is stopped nowhere: docs/guest.md, "Whole runs".
use Rattle.std.specs.Prelude.{◌≡◌, ℕ, List}
use Rattle.std.specs.declared.option.Option.TheVariants.{None}
use Rattle.infinite_heap.specs.Loaded.{Loaded}
use Rattle.rv_machine.specs.declared.settings.Settings.{Settings}
use Rattle.rv_machine.specs.Flat.{flat_run}
use Rattle.layout_run.specs.Whole.{run_until}

-- each of its steps is made
abbrev pub UnstoppedRunsAreFlatRuns : Type 0
UnstoppedRunsAreFlatRuns =
    (program : Loaded) (args : List (List ℕ)) (settings : Settings) (input : List ℕ) (n : ℕ)
    → run_until program args settings input None n ≡ flat_run program args settings input n
