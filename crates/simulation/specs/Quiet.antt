-- Runs that signal nothing.
use Rattle.std.specs.Prelude.{ℕ, ◌≡◌, true, List, []}
use Rattle.std.specs.FinSet.{empty}
use Rattle.infinite_heap.specs.Covered.{IsCoveredRun}
use Rattle.infinite_heap.specs.InfiniteRun.{inf_run, is_clear}
use Rattle.infinite_heap.specs.Loaded.{Loaded}
use Rattle.patch_table.specs.Limits.{InLimits}
use Rattle.exact_heap.specs.Calls.{check_end}
use Rattle.exact_heap.specs.Laws.{FreeSlotsAreWhole}
use Rattle.rv_machine.specs.declared.settings.Settings.{Settings}
use Rattle.rv_machine.specs.Cures.{cures_of}
use Rattle.rv_machine.specs.Flat.{flat_run}
use Rattle.rv_machine.specs.Guest.{Guest, heap_of}
use Rattle.simulation.specs.Agreement.{IsGiven}

-- each byte of every free slot is the canary's, no slot is bad, and nothing was signalled
pub record IsQuiet (g : Guest) : Type 0 where
  pub whole : FreeSlotsAreWhole (heap_of g)
  pub good : g.history.bad ≡ empty
  pub signals : g.history.signals ≡ []
  pub end : (check_end (heap_of g)).signals ≡ []

-- A clear run that its patches cover is quiet after each number of steps, whatever the seed, and also where it met no room.
abbrev pub CoveredRunsAreQuiet : Type 0
CoveredRunsAreQuiet =
    (program : Loaded) (args : List (List ℕ)) (settings : Settings) (input : List ℕ) → IsGiven program args input → InLimits settings.patches
    → (n : ℕ) → is_clear (inf_run program args input settings.zero n) ≡ true → IsCoveredRun (cures_of settings.patches) program args input settings.zero n
    → IsQuiet (flat_run program args settings input n).guest
