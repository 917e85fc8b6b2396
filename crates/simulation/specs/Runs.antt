-- Runs of the two machines, as far as what is recorded is harmless.
use Rattle.std.specs.Prelude.{ℕ, ◌≡◌, ◌<◌, ◌⊎◌, true, List}
use Rattle.infinite_heap.specs.Covered.{next_records, records_after}
use Rattle.infinite_heap.specs.InfiniteRun.{InfRun, inf_mapping, inf_run, inf_step_of, is_clear}
use Rattle.infinite_heap.specs.Layout.{AllHarmless}
use Rattle.infinite_heap.specs.Loaded.{Loaded}
use Rattle.infinite_heap.specs.Mapped.{Mapping}
use Rattle.rv_machine.specs.declared.settings.Settings.{Settings}
use Rattle.rv_machine.specs.Flat.{Flat, flat_step, flat_run}
use Rattle.rv_machine.specs.Laws.{AllBytes}
use Rattle.rv_machine.specs.Matches.{IsOutside}
use Rattle.rv_machine.specs.Objects.{layout_of}
use Rattle.simulation.specs.Agreement.{RunsAgree, IsRoomed, IsGiven}

-- the two agree, or there was no room
abbrev pub AgreesOrRoomed : Mapping → InfRun → Flat → Type 0
AgreesOrRoomed p run flat = RunsAgree p run flat ⊎ ((used wanted : ℕ) × IsRoomed flat used wanted)

-- ---- one step

-- From runs that agree, one whole step of each leads to runs that agree, or to no room: where the step on the infinite heap doesn't blur and what
-- it records is harmless where the objects lie.
abbrev pub StepsAgree : Type 0
StepsAgree =
    (p : Mapping) → IsOutside p → (input : List ℕ) → AllBytes input → (run : InfRun) (flat : Flat) → RunsAgree p run flat
    → is_clear (inf_step_of p flat.guest.names flat.guest.rules.zero input run run.ending) ≡ true
    → AllHarmless (layout_of flat.guest.history) (next_records p flat.guest.names flat.guest.rules.zero input run run.ending)
    → AgreesOrRoomed p (inf_step_of p flat.guest.names flat.guest.rules.zero input run run.ending) (flat_step input flat)

-- ---- runs

-- what step n + 1 records is harmless in this very run
abbrev pub IsHarmlessStep : Loaded → (args : List (List ℕ)) → Settings → (input : List ℕ) → ℕ → Type 0
IsHarmlessStep program args settings input n =
    AllHarmless (layout_of (flat_run program args settings input n).guest.history) (records_after program args input settings.zero n)

-- each step that is made from runs which agree is harmless
abbrev pub IsHarmlessRun : Loaded → (args : List (List ℕ)) → Settings → (input : List ℕ) → ℕ → Type 0
IsHarmlessRun program args settings input n =
    (k : ℕ) → k < n → RunsAgree (inf_mapping program args) (inf_run program args input settings.zero k) (flat_run program args settings input k)
    → IsHarmlessStep program args settings input k

-- After each number of steps a clear run on the infinite heap and the run on flat memory agree, or the latter has met no room, as long as each record
-- so far was harmless in this very run.
abbrev pub HarmlessRunsAgree : Type 0
HarmlessRunsAgree =
    (program : Loaded) (args : List (List ℕ)) (settings : Settings) (input : List ℕ) → IsGiven program args input
    → (n : ℕ) → is_clear (inf_run program args input settings.zero n) ≡ true → IsHarmlessRun program args settings input n
    → AgreesOrRoomed (inf_mapping program args) (inf_run program args input settings.zero n) (flat_run program args settings input n)

-- A guest that has met no room stays as it is.
abbrev pub RoomComesLast : Type 0
RoomComesLast =
    (program : Loaded) (args : List (List ℕ)) (settings : Settings) (input : List ℕ) (used wanted : ℕ) (k n : ℕ) → k < n
    → IsRoomed (flat_run program args settings input k) used wanted → flat_run program args settings input n ≡ flat_run program args settings input k
