-- What a machine can do after its last step.
use Rattle.std.specs.Prelude.{ℕ, Bool, true, false, Option, Some, None}
use Rattle.exact_heap.specs.Heaps.{StandsFor}
use Rattle.exact_heap.specs.History.{History}
use Rattle.rv_machine.specs.Stands.{heap_in}
use Rattle.rv_machine.specs.declared.machine.Machine.{Machine}
use Rattle.layout_run.specs.Advances.{IsPrinting, IsReadyFor}
use Rattle.layout_run.specs.declared.step.Progress.{Progress}
use Rattle.layout_run.specs.declared.step.Progress.TheVariants as progress

-- it waits until it may go on behind a write, and its heap stands for some history
pub record IsPaused (machine : Machine) (fd address len : ℕ) : Type 0 where
  pub printing : IsPrinting machine fd address len
  pub stands : ∥ ((h : History) × StandsFor (heap_in machine) h) ∥₁

-- what it can do, unless it was cut short
abbrev pub IsReadyAs : Option Progress → Machine → Type 0
IsReadyAs None machine = Unit {0}
IsReadyAs (Some (progress.Prints fd address len)) machine = IsPaused machine fd address len
IsReadyAs (Some state) machine = IsReadyFor state machine

-- it waits for a write
abbrev pub is_writing : Option Progress → Bool
is_writing (Some (progress.Prints fd address len)) = true
is_writing state = false
