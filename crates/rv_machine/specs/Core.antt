-- What a guest is between two steps, and what a step of it does: docs/guest.md.
use Rattle.std.specs.Prelude.{ℕ, ◌+◌, ◌==◌, if◌then◌else◌, List, [], length, replicate, slice_index, slice_set}
use Rattle.std.specs.declared.option.Option.{Option}
use Rattle.std.specs.declared.option.Option.TheVariants.{Some, None}
use Rattle.infinite_heap.specs.declared.fault.FaultKind.{FaultKind}
use Rattle.infinite_heap.specs.declared.program.Segment.{Segment}
use Rattle.rv_machine.specs.declared.ended.Ended.{Ended}
use Rattle.rv_machine.specs.declared.ended.Ended.TheVariants.{Exited, Faulted}
use Rattle.infinite_heap.specs.InfiniteState.{after}
use Rattle.infinite_heap.specs.Loaded.{Loaded}
use Rattle.infinite_heap.specs.Mapped.{byte_at, writable_at, runs_at}
use Rattle.infinite_heap.specs.Start.{segments_of, stack_pointer}
use Rattle.rv_memory.specs.Memory.{Memory, with_bytes}

pub record Core : Type 0 where
  -- x0 to x31
  pub regs : List ℕ
  pub pc : ℕ
  pub memory : Memory
  -- the return addresses, newest first
  pub calls : List ℕ
  -- the steps that were counted
  pub steps : ℕ
  pub ended : Option Ended

-- what the next step does
pub data Next : Type 0 where
  Goes : Core → Next
  Faults : FaultKind → (address : ℕ) → Next
  -- bytes of the input go to an address, at most so many
  Reads : (address len : ℕ) → Next
  -- the bytes at an address go to descriptor 1 or 2, and what is there afterwards
  Prints : (fd address len : ℕ) → (bytes : List ℕ) → Core → Next
  Exits : (code : ℕ) → Core → Next
  -- the guest has ended
  Stays : Ended → Next

abbrev pub register : Core → ℕ → ℕ
register core r = slice_index core.regs r

-- x0 stays
abbrev pub with_register : List ℕ → ℕ → ℕ → List ℕ
with_register regs r n = if r == 0 then regs else slice_set regs r n

-- a counted step to the next instruction, and one that writes a register
abbrev pub passed : Core → Core
passed core = record core { pc = after core.pc; steps = core.steps + 1 }

abbrev pub stepped : Core → ℕ → ℕ → Core
stepped core r n = record core { regs = with_register core.regs r n; pc = after core.pc; steps = core.steps + 1 }

-- a fault changes nothing but that the guest has ended
abbrev pub faulted : Core → FaultKind → ℕ → Core
faulted core kind address = record core { ended = Some (Faulted kind core.pc address) }

abbrev pub exited : Core → ℕ → Core
exited core code = record core { steps = core.steps + 1; ended = Some (Exited code) }

-- bytes of the input are there, and a0 is how many
abbrev pub filled : Core → (address : ℕ) → List ℕ → Core
filled core address bytes = record (stepped core 10 (length bytes)) { memory = with_bytes core.memory address bytes }

-- the memory that segments make
abbrev pub memory_in : List Segment → Memory
memory_in segments = record { bytes = byte_at segments; writable = writable_at segments; runs = runs_at segments }

-- a guest before its first step; sp is x2
abbrev pub start : Loaded → List (List ℕ) → Core
start program args = record {
  regs = slice_set (replicate 32 0) 2 (stack_pointer args);
  pc = program.entry;
  memory = memory_in (segments_of program args);
  calls = [];
  steps = 0;
  ended = None;
}
