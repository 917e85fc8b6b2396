-- Where runs meet no room.
use Rattle.std.specs.Prelude.{ℕ, ◌≡◌, true, List}
use Rattle.infinite_heap.specs.Covered.{IsCoveredRun}
use Rattle.infinite_heap.specs.InfiniteRun.{inf_run, is_clear}
use Rattle.infinite_heap.specs.Loaded.{Loaded}
use Rattle.patch_table.specs.Limits.{InLimits}
use Rattle.rv_machine.specs.declared.settings.Settings.{Settings}
use Rattle.rv_machine.specs.Cures.{cures_of}
use Rattle.rv_machine.specs.Flat.{flat_run}
use Rattle.simulation.specs.Agreement.{IsRoomed, IsGiven}

-- the same settings with another seed
abbrev pub seeded : (seed : ℕ) → Settings → Settings
seeded seed settings = record settings { seed = seed }

-- Where a clear run that its patches cover has met no room after a number of steps, so has the run under every other seed, and with the same two
-- numbers. So whether, after which step and with which numbers room is wanting is decided by the run on the infinite heap and the patches.
abbrev pub RoomIsTheSame : Type 0
RoomIsTheSame =
    (program : Loaded) (args : List (List ℕ)) (settings : Settings) (input : List ℕ) → IsGiven program args input → InLimits settings.patches
    → (n : ℕ) → is_clear (inf_run program args input settings.zero n) ≡ true → IsCoveredRun (cures_of settings.patches) program args input settings.zero n
    → (used wanted : ℕ) → IsRoomed (flat_run program args settings input n) used wanted
    → (seed : ℕ) → IsRoomed (flat_run program args (seeded seed settings) input n) used wanted
