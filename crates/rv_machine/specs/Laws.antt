-- What holds of the two machines, step by step and run by run.
use Rattle.std.specs.Prelude.{ℕ, ◌≡◌, ◌<◌, Bool, true, ⊤, List, [], ◌∷◌, length, All}
use Rattle.std.specs.declared.option.Option.TheVariants.{Some, None}
use Rattle.infinite_heap.specs.declared.access.Record.{Record}
use Rattle.infinite_heap.specs.declared.program.HeapName.{HeapName}
use Rattle.infinite_heap.specs.Covered.{IsCoveredRun, records_after}
use Rattle.infinite_heap.specs.InfiniteHeap.{call_at}
use Rattle.infinite_heap.specs.InfiniteRun.{inf_mapping, inf_run, is_clear}
use Rattle.infinite_heap.specs.InfiniteState.{InfState}
use Rattle.infinite_heap.specs.InfiniteStep.{inf_step}
use Rattle.infinite_heap.specs.Lawful.{IsLawful}
use Rattle.infinite_heap.specs.Layout.{Layout, IsLayout}
use Rattle.infinite_heap.specs.Loaded.{Loaded}
use Rattle.infinite_heap.specs.Mapped.{Mapping, byte_at}
use Rattle.infinite_heap.specs.Start.{segments_of}
use Rattle.patch_table.specs.Table.{Table, IsBelow}
use Rattle.exact_heap.specs.History.{no_history}
use Rattle.rv_machine.specs.declared.settings.Settings.{Settings}
use Rattle.rv_machine.specs.Core.{Core}
use Rattle.rv_machine.specs.Cures.{cures_of}
use Rattle.rv_machine.specs.Flat.{Flat, flat_step, flat_run}
use Rattle.rv_machine.specs.Guest.{rules_in}
use Rattle.rv_machine.specs.Matches.{IsOutside, IsMapped, StateMatches, StepMatches, RunMatches}
use Rattle.rv_machine.specs.Steps.{next}

-- every number of the list is a byte
abbrev pub AllBytes : List ℕ → Type 0
AllBytes bytes = All (λ b. b < 256) bytes

-- From matching states the next steps match, wherever the objects lie, where pc is at no heap function.
abbrev pub StepsMatch : Type 0
StepsMatch =
    (l : Layout) → IsLayout l → (p : Mapping) → IsOutside p → (input : List ℕ) → AllBytes input → (names : List HeapName) (zeroed : Bool)
    → (s : InfState) (t : Core) → StateMatches l p s t → t.ended ≡ None → call_at names s.pc ≡ None → StepMatches l p input s t (inf_step p names zeroed input s) (next t)

-- What is mapped before the first step holds bytes.
abbrev pub StartsWithBytes : Loaded → List (List ℕ) → Type 0
StartsWithBytes program args = (x b : ℕ) → byte_at (segments_of program args) x ≡ Some b → b < 256

-- A program maps nothing of the heap region.
abbrev pub ProgramsStayOutside : Type 0
ProgramsStayOutside = (program : Loaded) → IsLawful program → (args : List (List ℕ)) → IsOutside (inf_mapping program args)

-- After each number of steps the run on flat memory of a program without heap functions matches the run on the
-- infinite heap, whatever the seed, where that is clear and each of its records is covered by the patches.
abbrev pub RunsMatch : Type 0
RunsMatch =
    (program : Loaded) → IsLawful program → program.names ≡ [] → (args : List (List ℕ)) → StartsWithBytes program args → (settings : Settings) → (input : List ℕ) → AllBytes input
    → (n : ℕ) → is_clear (inf_run program args input settings.zero n) ≡ true → IsCoveredRun (cures_of settings.patches) program args input settings.zero n
    → RunMatches (inf_mapping program args) (inf_run program args input settings.zero n) (flat_run program args settings input n)

-- Where segments and arguments hold bytes, so does what is mapped before the first step.
abbrev pub BytesStart : Type 0
BytesStart = (program : Loaded) → All (λ segment. AllBytes segment.bytes) program.segments → (args : List (List ℕ)) → All AllBytes args → StartsWithBytes program args

-- A run keeps the heap functions of its program, and the patches that it was set to.
abbrev pub RunsKeepRules : Type 0
RunsKeepRules =
    (program : Loaded) (args : List (List ℕ)) (settings : Settings) (input : List ℕ) (n : ℕ)
    → ((flat_run program args settings input n).guest.names ≡ program.names) × ((flat_run program args settings input n).guest.rules ≡ rules_in settings)

-- A program without heap functions has no heap: its history is that of a new one.
abbrev pub NamelessAreHeapless : Type 0
NamelessAreHeapless =
    (program : Loaded) → program.names ≡ [] → (args : List (List ℕ)) (settings : Settings) (input : List ℕ) (n : ℕ)
    → (flat_run program args settings input n).guest.history ≡ no_history settings.seed

-- the records are of objects that there are, so many
abbrev pub AllKnown : ℕ → List Record → Type 0
AllKnown count [] = ⊤
AllKnown count (r ∷ records) = (r.access.object < count) × AllKnown count records

-- What each step of a run on the infinite heap records is of objects that there are at that step.
abbrev pub RecordsAreKnown : Type 0
RecordsAreKnown =
    (program : Loaded) (args : List (List ℕ)) → StartsWithBytes program args → (input : List ℕ) → AllBytes input → (zeroed : Bool) (n : ℕ)
    → AllKnown (length (inf_run program args input zeroed n).state.objects) (records_after program args input zeroed n)

-- A step keeps what is mapped: outside of the heap region what the program has there, and inside it exactly the miniheaps
-- of the history.
abbrev pub StepsStayMapped : Type 0
StepsStayMapped = (p : Mapping) (input : List ℕ) → AllBytes input → (flat : Flat) → IsMapped p flat.guest → IsMapped p (flat_step input flat).guest

-- After each number of steps, whatever the seed, exactly what the program has is mapped outside of the heap region, and
-- exactly the miniheaps of the history inside it; those may be written to and never run.
abbrev pub RunsStayMapped : Type 0
RunsStayMapped =
    (program : Loaded) → IsLawful program → (args : List (List ℕ)) → StartsWithBytes program args → (settings : Settings) → (input : List ℕ) → AllBytes input
    → (n : ℕ) → IsMapped (inf_mapping program args) (flat_run program args settings input n).guest

-- What a table covers, every table covers whose entries are no lower.
abbrev pub RaisedTablesCover : Type 0
RaisedTablesCover =
    (low high : Table) → IsBelow low high → (program : Loaded) (args : List (List ℕ)) (input : List ℕ) (zeroed : Bool) (n : ℕ)
    → IsCoveredRun (cures_of low) program args input zeroed n → IsCoveredRun (cures_of high) program args input zeroed n
