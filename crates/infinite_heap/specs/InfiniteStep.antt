-- One step of the infinite-heap machine: docs/infinite-run.md, "Steps". The steps of the instructions are those of the
-- RISC-V Unprivileged ISA manual, over values.
use Rattle.std.specs.Prelude.{ℕ, ℤ, ◌+◌, ◌-◌, ◌*◌, ◌%◌, ◌^◌, Bool, false, not, nat_eq, if◌then◌else◌, List, [], ◌∷◌}
use Rattle.std.specs.Int.{w32, cast_unsigned}
use Rattle.std.specs.declared.option.Option.{Option}
use Rattle.std.specs.declared.option.Option.TheVariants.{Some, None}
use Rattle.infinite_heap.specs.declared.access.Record.{Record}
use Rattle.infinite_heap.specs.declared.access.AccessKind.TheVariants as kind
use Rattle.infinite_heap.specs.declared.fault.FaultKind.TheVariants as fault
use Rattle.infinite_heap.specs.declared.fault.Why.TheVariants as why
use Rattle.infinite_heap.specs.declared.instr.Instr.{Instr}
use Rattle.infinite_heap.specs.declared.instr.Instr.TheVariants as instr
use Rattle.infinite_heap.specs.declared.instr.Op.{Op}
use Rattle.infinite_heap.specs.declared.instr.Op.TheVariants as op
use Rattle.infinite_heap.specs.declared.instr.Operation.{Operation}
use Rattle.infinite_heap.specs.declared.instr.Operation.TheVariants.{Add}
use Rattle.infinite_heap.specs.declared.program.HeapCall.{HeapCall}
use Rattle.infinite_heap.specs.declared.program.HeapName.{HeapName}
use Rattle.infinite_heap.specs.declared.value.Value.{Value}
use Rattle.infinite_heap.specs.declared.value.Value.TheVariants.{Num, Ptr}
use Rattle.infinite_heap.specs.Calls.{after_jal, after_jalr}
use Rattle.infinite_heap.specs.Equality.{Decision, same, plain, opposite, touches}
use Rattle.infinite_heap.specs.InfiniteHeap.{call_at, inf_call}
use Rattle.infinite_heap.specs.InfiniteState.{InfState, InfStep, Goes, Faults, Blurs, cells_of_state, clock_of, access, set_reg, after, inf_pass, inf_next}
use Rattle.infinite_heap.specs.InfiniteSystem.{inf_ecall, all_in}
use Rattle.infinite_heap.specs.Lift.{lift}
use Rattle.infinite_heap.specs.Mapped.{Mapping}
use Rattle.infinite_heap.specs.Memory.{put_all, get_all, store_all, width_of, extends_sign, value_from, cells_from}
use Rattle.infinite_heap.specs.Objects.{alignment_in, size_in}
use Rattle.infinite_heap.specs.Operations.{operation_of}
use Rattle.infinite_heap.specs.Order.{below, below_signed}
use Rattle.infinite_heap.specs.Region.{in_region}
use Rattle.infinite_heap.specs.Row.{row}

-- the word of a signed immediate
abbrev pub imm_word : ℤ → ℕ
imm_word imm = cast_unsigned w32 imm

-- a jump: its target has to be a multiple of 4
abbrev pub inf_jump : InfState → (target : ℕ) → List Record → InfStep
inf_jump s target records = if nat_eq (target % 4) 0 then Goes (record s { pc = target; steps = s.steps + 1 }) records else Faults fault.Jump records

-- the question that a branch asks of two values
abbrev pub decide : (ℕ → ℕ) → Op → Value → Value → Option Decision
decide sizes op.Beq x y = same sizes x y
decide sizes op.Bne x y = opposite (same sizes x y)
decide sizes op.Blt x y = plain (below_signed x y)
decide sizes op.Bge x y = opposite (plain (below_signed x y))
decide sizes op.Bltu x y = plain (below x y)
decide sizes op.Bgeu x y = opposite (plain (below x y))
decide sizes o x y = None

abbrev pub inf_branch : InfState → (offset : ℕ) → Option Decision → InfStep
inf_branch s offset None = Blurs why.Branch []
inf_branch s offset (Some d) =
    if d.answer then inf_jump s ((s.pc + offset) % 2 ^ 32) (touches (clock_of s) s.pc d.looks)
    else Goes (inf_pass s) (touches (clock_of s) s.pc d.looks)

-- a load from the address that a value is
abbrev pub inf_load : Mapping → InfState → Op → (rd : ℕ) → Value → InfStep
inf_load p s o rd (Num n) =
    if in_region n then Blurs why.Address []
    else if not (nat_eq (n % width_of o) 0) then Faults fault.LoadAlign []
    else if all_in p.mapped n (width_of o) then Goes (inf_next s rd (value_from (extends_sign o) (get_all s.flat n (width_of o)))) []
    else Faults fault.Load []
inf_load p s o rd (Ptr object offset) =
    if not (nat_eq (offset % width_of o) 0) then Faults fault.LoadAlign []
    else Goes (inf_next s rd (value_from (extends_sign o) (get_all ((cells_of_state s).heap object) offset (width_of o)))) (access s kind.Load object offset (width_of o) ∷ [])
inf_load p s o rd v = Blurs why.Address []

-- a store of a value to the address that a value is
abbrev pub inf_store : Mapping → InfState → Op → (stored : Value) → Value → InfStep
inf_store p s o stored (Num n) =
    if in_region n then Blurs why.Address []
    else if not (nat_eq (n % width_of o) 0) then Faults fault.StoreAlign []
    else if all_in p.writable n (width_of o) then Goes (record (inf_pass s) { flat = put_all s.flat n (cells_from (width_of o) stored) }) []
    else Faults fault.Store []
inf_store p s o stored (Ptr object offset) =
    if not (nat_eq (offset % width_of o) 0) then Faults fault.StoreAlign []
    else Goes (record (inf_pass s) { written = store_all s.written object offset (cells_from (width_of o) stored) }) (access s kind.Store object offset (width_of o) ∷ [])
inf_store p s o stored v = Blurs why.Address []

-- a jump to the address that a value is, its lowest bit cleared
abbrev pub inf_jalr : InfState → (rd rs1 : ℕ) → Value → InfStep
inf_jalr s rd rs1 (Num n) = inf_jump (record s { regs = set_reg s.regs rd (Num (after s.pc)); calls = after_jalr rd rs1 (after s.pc) s.calls }) (n - n % 2) []
inf_jalr s rd rs1 v = Blurs why.Target []

abbrev pub inf_operate : InfState → (rd : ℕ) → Option Operation → Value → Value → InfStep
inf_operate s rd (Some o) x y = Goes (inf_next s rd (lift (alignment_in s.objects) o x y)) []
inf_operate s rd None x y = Faults fault.Illegal []

abbrev pub inf_system : Mapping → (input : List ℕ) → InfState → Op → InfStep
inf_system p input s op.Ecall = inf_ecall p input s (s.regs 17)
inf_system p input s op.Ebreak = Faults fault.Break []
inf_system p input s op.Fence = Goes (inf_pass s) []
inf_system p input s op.FenceI = Goes (inf_pass s) []
inf_system p input s o = Faults fault.Illegal []

abbrev pub inf_do : Mapping → (input : List ℕ) → InfState → Instr → InfStep
inf_do p input s (instr.Alu o rd rs1 rs2) = inf_operate s rd (operation_of o) (s.regs rs1) (s.regs rs2)
inf_do p input s (instr.AluImm o rd rs1 imm) = inf_operate s rd (operation_of o) (s.regs rs1) (Num (imm_word imm))
inf_do p input s (instr.Lui rd top) = Goes (inf_next s rd (Num (top * 4096))) []
inf_do p input s (instr.Auipc rd top) = Goes (inf_next s rd (Num ((s.pc + top * 4096) % 2 ^ 32))) []
inf_do p input s (instr.Jal rd imm) =
    inf_jump (record s { regs = set_reg s.regs rd (Num (after s.pc)); calls = after_jal rd (after s.pc) s.calls }) ((s.pc + imm_word imm) % 2 ^ 32) []
inf_do p input s (instr.Jalr rd rs1 imm) = inf_jalr s rd rs1 (lift (alignment_in s.objects) Add (s.regs rs1) (Num (imm_word imm)))
inf_do p input s (instr.Branch o rs1 rs2 imm) = inf_branch s (imm_word imm) (decide (size_in s.objects) o (s.regs rs1) (s.regs rs2))
inf_do p input s (instr.Load o rd rs1 imm) = inf_load p s o rd (lift (alignment_in s.objects) Add (s.regs rs1) (Num (imm_word imm)))
inf_do p input s (instr.Store o rs1 rs2 imm) = inf_store p s o (s.regs rs2) (lift (alignment_in s.objects) Add (s.regs rs1) (Num (imm_word imm)))
inf_do p input s (instr.System o) = inf_system p input s o

abbrev pub inf_decoded : Mapping → (input : List ℕ) → InfState → Option Instr → InfStep
inf_decoded p input s None = Faults fault.Illegal []
inf_decoded p input s (Some i) = inf_do p input s i

abbrev pub inf_word : Mapping → (input : List ℕ) → InfState → Value → InfStep
inf_word p input s (Num w) = inf_decoded p input s (row w)
inf_word p input s v = Blurs why.Fetch []

-- the instruction at pc
abbrev pub inf_fetch : Mapping → (input : List ℕ) → InfState → InfStep
inf_fetch p input s =
    if all_in p.runs s.pc 4 then inf_word p input s (value_from false (get_all s.flat s.pc 4))
    else Faults fault.Fetch []

-- a heap call, where there is one at pc
abbrev pub inf_step_at : Mapping → (zeroed : Bool) → (input : List ℕ) → InfState → Option HeapCall → InfStep
inf_step_at p zeroed input s (Some function) = inf_call s zeroed function
inf_step_at p zeroed input s None = inf_fetch p input s

-- the step at pc: a heap function of the program is looked for before anything is fetched
abbrev pub inf_step : Mapping → List HeapName → (zeroed : Bool) → (input : List ℕ) → InfState → InfStep
inf_step p names zeroed input s = inf_step_at p zeroed input s (call_at names s.pc)
