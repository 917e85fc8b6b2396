-- The infinite-heap machine between two steps, and what a step of it does: docs/infinite-run.md.
use Rattle.std.specs.Prelude.{ℕ, ◌+◌, ◌%◌, ◌^◌, ◌&&◌, not, nat_eq, if◌then◌else◌, List, [], length}
use Rattle.infinite_heap.specs.declared.access.AccessKind.{AccessKind}
use Rattle.infinite_heap.specs.declared.access.Record.{Record}
use Rattle.infinite_heap.specs.declared.fault.FaultKind.{FaultKind}
use Rattle.infinite_heap.specs.declared.fault.Why.{Why}
use Rattle.infinite_heap.specs.declared.value.Cell.{Cell}
use Rattle.infinite_heap.specs.declared.value.Value.{Value}
use Rattle.infinite_heap.specs.Memory.{CellMap, Written, cell_at}
use Rattle.infinite_heap.specs.Objects.{Object, begins_in}

pub record InfState : Type 0 where
  pub pc : ℕ
  -- the steps that were counted
  pub steps : ℕ
  -- the return addresses, newest first
  pub calls : List ℕ
  -- x0 to x31
  pub regs : ℕ → Value
  -- the cells at the addresses of segments and stack
  pub flat : ℕ → Cell
  -- the cells of objects that were written, newest first
  pub written : List Written
  pub objects : List Object
  -- how much of the input was read
  pub place : ℕ

-- what a step does, with its records in order; a fault and a blur change nothing
pub data InfStep : Type 0 where
  Goes : InfState → List Record → InfStep
  -- so many bytes of the input were asked for, and those that there were are in the state
  Reads : (len : ℕ) → InfState → List Record → InfStep
  -- bytes for descriptor 1 or 2
  Prints : (fd : ℕ) (bytes : List ℕ) → InfState → List Record → InfStep
  Exits : (code : ℕ) → InfState → InfStep
  Faults : FaultKind → List Record → InfStep
  Blurs : Why → List Record → InfStep

-- what a step records
abbrev pub records_of : InfStep → List Record
records_of (Goes s records) = records
records_of (Reads len s records) = records
records_of (Prints fd bytes s records) = records
records_of (Exits code s) = []
records_of (Faults kind records) = records
records_of (Blurs why records) = records

-- the clock is the number of objects so far
abbrev pub clock_of : InfState → ℕ
clock_of s = length s.objects

-- all cells: those of objects that weren't written are what their object began with
abbrev pub cells_of_state : InfState → CellMap
cells_of_state s = record { flat = s.flat; heap = cell_at (begins_in s.objects) s.written }

-- an access of this step
abbrev pub access : InfState → AccessKind → (object offset width : ℕ) → Record
access s kind object offset width = record { kind = kind; access = record { object = object; offset = offset; width = width; clock = clock_of s; pc = s.pc } }

-- x0 stays
abbrev pub set_reg : {V : Type 0} → (ℕ → V) → ℕ → V → ℕ → V
set_reg regs r v q = if nat_eq r q && not (nat_eq r 0) then v else regs q

abbrev pub after : ℕ → ℕ
after pc = (pc + 4) % 2 ^ 32

-- a counted step to the next instruction, and one that writes a register
abbrev pub inf_pass : InfState → InfState
inf_pass s = record s { pc = after s.pc; steps = s.steps + 1 }

abbrev pub inf_next : InfState → ℕ → Value → InfState
inf_next s rd v = record s { pc = after s.pc; steps = s.steps + 1; regs = set_reg s.regs rd v }
