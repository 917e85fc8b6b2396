-- A run on the infinite heap, from the start of the guest: docs/infinite-run.md, "Runs".
use Rattle.std.specs.Prelude.{ℕ, zero, suc, Bool, true, false, nat_eq, if◌then◌else◌, List, [], ◌++◌, unwrap_or}
use Rattle.std.specs.declared.option.Option.{Option}
use Rattle.std.specs.declared.option.Option.TheVariants.{Some, None}
use Rattle.infinite_heap.specs.declared.access.Record.{Record}
use Rattle.infinite_heap.specs.declared.fault.FaultKind.{FaultKind}
use Rattle.infinite_heap.specs.declared.fault.Why.{Why}
use Rattle.infinite_heap.specs.declared.program.HeapName.{HeapName}
use Rattle.infinite_heap.specs.declared.value.Cell.TheVariants.{Byte}
use Rattle.infinite_heap.specs.declared.value.Value.{Value}
use Rattle.infinite_heap.specs.declared.value.Value.TheVariants.{Num}
use Rattle.infinite_heap.specs.InfiniteState.{InfState, InfStep, Goes, Reads, Prints, Exits, Faults, Blurs, records_of}
use Rattle.infinite_heap.specs.InfiniteStep.{inf_step}
use Rattle.infinite_heap.specs.Loaded.{Loaded}
use Rattle.infinite_heap.specs.Mapped.{Mapping, mapping_of, byte_at}
use Rattle.infinite_heap.specs.Start.{segments_of, stack_pointer}

-- how a run ends; with none, its budget was used up
pub data InfEnding : Type 0 where
  InfExit : (code : ℕ) → InfEnding
  InfFault : FaultKind → (pc : ℕ) → InfEnding
  InfBlur : Why → (pc : ℕ) → InfEnding

pub record InfRun : Type 0 where
  pub state : InfState
  -- printed on descriptors 1 and 2
  pub out : List ℕ
  pub err : List ℕ
  -- in order
  pub records : List Record
  pub ending : Option InfEnding

-- bytes for a descriptor behind those that were printed on it
abbrev pub printed_on : (descriptor fd : ℕ) → (before bytes : List ℕ) → List ℕ
printed_on descriptor fd before bytes = if nat_eq fd descriptor then before ++ bytes else before

-- what a step does to a run, but for its records
abbrev pub inf_moved : InfRun → InfStep → InfRun
inf_moved run (Goes s records) = record run { state = s }
inf_moved run (Reads len s records) = record run { state = s }
inf_moved run (Prints fd bytes s records) = record run { state = s; out = printed_on 1 fd run.out bytes; err = printed_on 2 fd run.err bytes }
inf_moved run (Exits code s) = record run { state = s; ending = Some (InfExit code) }
inf_moved run (Faults kind records) = record run { ending = Some (InfFault kind run.state.pc) }
inf_moved run (Blurs why records) = record run { ending = Some (InfBlur why run.state.pc) }

abbrev pub inf_after : InfRun → InfStep → InfRun
inf_after run step = record (inf_moved run step) { records = run.records ++ records_of step }

-- a step of a run that has ended changes nothing
abbrev pub inf_step_of : Mapping → List HeapName → (zeroed : Bool) → (input : List ℕ) → InfRun → Option InfEnding → InfRun
inf_step_of p names zeroed input run None = inf_after run (inf_step p names zeroed input run.state)
inf_step_of p names zeroed input run (Some ending) = run

-- sp is x2
abbrev pub inf_registers : List (List ℕ) → ℕ → Value
inf_registers args r = if nat_eq r 2 then Num (stack_pointer args) else Num 0

abbrev pub inf_mapping : Loaded → List (List ℕ) → Mapping
inf_mapping program args = mapping_of (segments_of program args)

abbrev pub inf_start : Loaded → List (List ℕ) → InfRun
inf_start program args = record {
  state = record {
    pc = program.entry;
    steps = 0;
    calls = [];
    regs = inf_registers args;
    flat = λ x. Byte (unwrap_or (byte_at (segments_of program args) x) 0);
    written = [];
    objects = [];
    place = 0;
  };
  out = [];
  err = [];
  records = [];
  ending = None;
}

-- the run after at most so many steps; `zeroed` says that all objects begin with zeros
unfoldable pub inf_run : Loaded → (args : List (List ℕ)) → (input : List ℕ) → (zeroed : Bool) → ℕ → InfRun
inf_run program args input zeroed zero = inf_start program args
inf_run program args input zeroed (suc n) =
    inf_step_of (inf_mapping program args) program.names zeroed input (inf_run program args input zeroed n) (inf_run program args input zeroed n).ending

-- the run lets nothing depend on an address or an unset byte
abbrev pub is_clear_ending : Option InfEnding → Bool
is_clear_ending (Some (InfBlur why pc)) = false
is_clear_ending ending = true

abbrev pub is_clear : InfRun → Bool
is_clear run = is_clear_ending run.ending
