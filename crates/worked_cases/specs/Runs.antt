-- What a worked guest runs on, and what its run does: docs/infinite-run.md, "Worked runs".
use Rattle.std.specs.Prelude.{◌≡◌, ℕ, ◌+◌, ◌*◌, Bool, true, false, List, [], ◌∷◌, ◌++◌, length}
use Rattle.std.specs.Int.{to_le_bytes, w32}
use Rattle.std.specs.declared.option.Option.{Option}
use Rattle.std.specs.declared.option.Option.TheVariants.{Some, None}
use Rattle.infinite_heap.specs.declared.access.AccessKind.{AccessKind}
use Rattle.infinite_heap.specs.declared.access.Record.{Record}
use Rattle.infinite_heap.specs.declared.program.HeapCall.{HeapCall}
use Rattle.infinite_heap.specs.declared.program.HeapCall.TheVariants.{Malloc, Free, Calloc, Realloc, Memalign, AlignedAlloc, MallocR, FreeR, CallocR, ReallocR, MemalignR}
use Rattle.infinite_heap.specs.declared.program.HeapName.{HeapName}
use Rattle.infinite_heap.specs.declared.value.Cell.{Cell}
use Rattle.infinite_heap.specs.InfiniteRun.{InfRun, InfEnding, inf_mapping, inf_run}
use Rattle.infinite_heap.specs.InfiniteState.{InfStep, Reads}
use Rattle.infinite_heap.specs.InfiniteStep.{inf_step}
use Rattle.infinite_heap.specs.Loaded.{Loaded}
use Rattle.infinite_heap.specs.Memory.{stored_count}
use Rattle.infinite_heap.specs.Objects.{Object}
use Rattle.infinite_heap.specs.Region.{least_alignment}

abbrev pub bytes_of : List ℕ → List ℕ
bytes_of [] = []
bytes_of (word ∷ words) = to_le_bytes w32 word ++ bytes_of words

-- four heap functions at four breakpoints from 0x10000 on
abbrev pub names_of : (first second third fourth : HeapCall) → List HeapName
names_of first second third fourth =
    record { at = 0x10000; call = first } ∷ record { at = 0x10004; call = second } ∷ record { at = 0x10008; call = third } ∷ record { at = 0x1000c; call = fourth } ∷ []

abbrev pub plain_names : List HeapName
plain_names = names_of Malloc Free Calloc Realloc

-- the names that skip their first argument
abbrev pub skipping_names : List HeapName
skipping_names = names_of MallocR FreeR CallocR ReallocR

-- the names that are asked for an alignment, and realloc
abbrev pub aligning_names : List HeapName
aligning_names = names_of Memalign AlignedAlloc MemalignR Realloc

-- the words behind the breakpoints, and 4,096 bytes at 0x200000 that may be written to, and run where that is said
abbrev pub guest_of : List HeapName → (runs : Bool) → (words : List ℕ) → Loaded
guest_of names runs words = record {
  segments = record {
    from = 0x10000;
    len = 16 + 4 * length words;
    bytes = bytes_of (0x00100073 ∷ 0x00100073 ∷ 0x00100073 ∷ 0x00100073 ∷ words);
    writable = false;
    runs = true;
  }
      ∷ record { from = 0x200000; len = 4096; bytes = []; writable = true; runs = runs } ∷ [];
  entry = 0x10010;
  names = names;
  tag = 0;
}

-- ---- up to 100 steps of a guest without arguments

abbrev pub run_of : (words : List ℕ) → InfRun
run_of words = inf_run (guest_of plain_names false words) [] [] false 100

-- with this input
abbrev pub run_on : (input words : List ℕ) → InfRun
run_on input words = inf_run (guest_of plain_names false words) [] input false 100

-- where objects begin with zeros
abbrev pub zeroed_run_of : (words : List ℕ) → InfRun
zeroed_run_of words = inf_run (guest_of plain_names false words) [] [] true 100

-- with the names that skip their first argument
abbrev pub skipping_run_of : (words : List ℕ) → InfRun
skipping_run_of words = inf_run (guest_of skipping_names false words) [] [] false 100

-- with the names that are asked for an alignment
abbrev pub aligning_run_of : (words : List ℕ) → InfRun
aligning_run_of words = inf_run (guest_of aligning_names false words) [] [] false 100

abbrev pub zeroed_aligning_run_of : (words : List ℕ) → InfRun
zeroed_aligning_run_of words = inf_run (guest_of aligning_names false words) [] [] true 100

-- where what is at 0x200000 may be run
abbrev pub running_run_of : (words : List ℕ) → InfRun
running_run_of words = inf_run (guest_of plain_names true words) [] [] false 100

-- ---- what they do

-- a run ends so, after so many counted steps, and has printed these bytes on descriptor 1
pub record Ends (run : InfRun) (ending : InfEnding) (steps : ℕ) (out : List ℕ) : Type 0 where
  pub ended : run.ending ≡ Some ending
  pub counted : run.state.steps ≡ steps
  pub printed : run.out ≡ out

abbrev pub used : AccessKind → (object offset width clock pc : ℕ) → Record
used kind object offset width clock pc = record { kind = kind; access = record { object = object; offset = offset; width = width; clock = clock; pc = pc } }

abbrev pub kept : (size site : ℕ) → Cell → Object
kept size site begins = record { size = size; alignment = least_alignment; site = site; begins = begins; freed = None }

abbrev pub gone : (size site : ℕ) → Cell → (clock free_site : ℕ) → Object
gone size site begins clock free_site = record { size = size; alignment = least_alignment; site = site; begins = begins; freed = Some (record { clock = clock; site = free_site }) }

-- an object of another alignment than 16
abbrev pub aligned_to : (alignment : ℕ) → Object → Object
aligned_to alignment object = record object { alignment = alignment }

-- a run has these records
abbrev pub Uses : InfRun → List Record → Type 0
Uses run records = run.records ≡ records

-- a run has these records and these objects
pub record Leaves (run : InfRun) (records : List Record) (objects : List Object) : Type 0 where
  pub recorded : run.records ≡ records
  pub left : run.state.objects ≡ objects

-- how many cells of objects a run has stored
abbrev pub stored_by : InfRun → ℕ
stored_by run = stored_count run.state.written

-- how many bytes of the input a step asks for, where it reads
abbrev pub asked_by : InfStep → Option ℕ
asked_by (Reads len s records) = Some len
asked_by step = None

-- the same of a guest's next step after so many
abbrev pub asks_after : (input words : List ℕ) → (steps : ℕ) → Option ℕ
asks_after input words steps =
    asked_by (inf_step (inf_mapping (guest_of plain_names false words) []) plain_names false input (inf_run (guest_of plain_names false words) [] input false steps).state)
