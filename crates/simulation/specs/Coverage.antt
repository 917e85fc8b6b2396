-- What patches that stay do for what they cover.
use Rattle.std.specs.Prelude.{ℕ, ◌≡◌, ◌<◌, true, ⊤, List, [], ◌∷◌, length}
use Rattle.infinite_heap.specs.declared.access.AccessKind.{AccessKind}
use Rattle.infinite_heap.specs.declared.access.AccessKind.TheVariants.{Again}
use Rattle.infinite_heap.specs.declared.access.Record.{Record}
use Rattle.infinite_heap.specs.Covered.{IsCovered, IsCoveredRun, records_after}
use Rattle.infinite_heap.specs.InfiniteRun.{inf_mapping, inf_run, is_clear}
use Rattle.infinite_heap.specs.InfiniteState.{InfState, clock_of}
use Rattle.infinite_heap.specs.Layout.{Layout, IsHarmlessUse, IsHarmlessFree}
use Rattle.infinite_heap.specs.Loaded.{Loaded}
use Rattle.infinite_heap.specs.Mapped.{Mapping}
use Rattle.patch_table.specs.Limits.{InLimits}
use Rattle.patch_table.specs.Table.{Table}
use Rattle.exact_heap.specs.Patched.{FollowsPatches}
use Rattle.rv_machine.specs.declared.settings.Settings.{Settings}
use Rattle.rv_machine.specs.Cures.{cures_of}
use Rattle.rv_machine.specs.Flat.{flat_run}
use Rattle.rv_machine.specs.Guest.{Guest}
use Rattle.rv_machine.specs.Objects.{layout_of}
use Rattle.simulation.specs.Agreement.{StatesAgree, RunsAgree, IsGiven}
use Rattle.simulation.specs.Runs.{AgreesOrRoomed, IsHarmlessRun}

-- an access stays in the slot of its object, which is held; a repeated free finds no owned object at its address
abbrev pub IsAtHome : Layout → AccessKind → (object offset width : ℕ) → Type 0
IsAtHome l Again o d n = IsHarmlessFree l o
IsAtHome l kind o d n = IsHarmlessUse l o d n

-- From states that agree, what patches cover that the heap has gone by so far stays in its object's slot. So it is harmless.
abbrev pub CoveredStaysHome : Type 0
CoveredStaysHome =
    (patches : Table) → InLimits patches → (p : Mapping) (s : InfState) (g : Guest) → StatesAgree p s g → FollowsPatches patches g.history
    → (r : Record) → r.access.object < length s.objects → r.access.clock ≡ clock_of s → IsCovered (cures_of patches) s.objects r
    → IsAtHome (layout_of g.history) r.kind r.access.object r.access.offset r.access.width

abbrev pub AllAtHome : Layout → List Record → Type 0
AllAtHome l [] = ⊤
AllAtHome l (r ∷ rest) = IsAtHome l r.kind r.access.object r.access.offset r.access.width × AllAtHome l rest

-- So do all records of each step of a run that its patches cover, where the two runs agree before it.
abbrev pub CoveredStepsStayHome : Type 0
CoveredStepsStayHome =
    (program : Loaded) (args : List (List ℕ)) (settings : Settings) (input : List ℕ) → IsGiven program args input → InLimits settings.patches
    → (n : ℕ) → IsCoveredRun (cures_of settings.patches) program args input settings.zero n
    → (k : ℕ) → k < n → RunsAgree (inf_mapping program args) (inf_run program args input settings.zero k) (flat_run program args settings input k)
    → AllAtHome (layout_of (flat_run program args settings input k).guest.history) (records_after program args input settings.zero k)

-- A run that its patches cover is harmless under them.
abbrev pub CoveredRunsAreHarmless : Type 0
CoveredRunsAreHarmless =
    (program : Loaded) (args : List (List ℕ)) (settings : Settings) (input : List ℕ) → IsGiven program args input → InLimits settings.patches
    → (n : ℕ) → IsCoveredRun (cures_of settings.patches) program args input settings.zero n → IsHarmlessRun program args settings input n

-- So the two runs agree after each number of steps, or there was no room, whatever the seed.
abbrev pub CoveredRunsAgree : Type 0
CoveredRunsAgree =
    (program : Loaded) (args : List (List ℕ)) (settings : Settings) (input : List ℕ) → IsGiven program args input → InLimits settings.patches
    → (n : ℕ) → is_clear (inf_run program args input settings.zero n) ≡ true → IsCoveredRun (cures_of settings.patches) program args input settings.zero n
    → AgreesOrRoomed (inf_mapping program args) (inf_run program args input settings.zero n) (flat_run program args settings input n)
