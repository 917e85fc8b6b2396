-- The next step of a guest: the instructions of the RISC-V Unprivileged ISA manual, the faults and the system calls of docs/guest.md.
use Rattle.std.specs.Prelude.{ℕ, ◌+◌, ◌*◌, ◌/◌, ◌%◌, ◌^◌, ◌==◌, Bool, true, false, not, nat_lt, int_lt, if◌then◌else◌, List}
use Rattle.std.specs.Int.{w32, from_le_bytes}
use Rattle.std.specs.declared.option.Option.{Option}
use Rattle.std.specs.declared.option.Option.TheVariants.{Some, None}
use Rattle.infinite_heap.specs.declared.fault.FaultKind.TheVariants as fault
use Rattle.infinite_heap.specs.declared.instr.Instr.{Instr}
use Rattle.infinite_heap.specs.declared.instr.Instr.TheVariants as instr
use Rattle.infinite_heap.specs.declared.instr.Op.{Op}
use Rattle.infinite_heap.specs.declared.instr.Op.TheVariants as op
use Rattle.infinite_heap.specs.declared.instr.Operation.{Operation}
use Rattle.infinite_heap.specs.declared.instr.Operation.TheVariants.{Add}
use Rattle.infinite_heap.specs.Alu.{alu, signed}
use Rattle.infinite_heap.specs.Calls.{after_jal, after_jalr}
use Rattle.infinite_heap.specs.InfiniteState.{after}
use Rattle.infinite_heap.specs.InfiniteStep.{imm_word}
use Rattle.infinite_heap.specs.InfiniteSystem.{bad_descriptor, bad_span, no_call, is_read, is_write, is_exit, is_printed}
use Rattle.infinite_heap.specs.Memory.{width_of, extends_sign, word_from, bytes_from}
use Rattle.infinite_heap.specs.Operations.{operation_of}
use Rattle.infinite_heap.specs.Row.{row}
use Rattle.rv_memory.specs.Memory.{span, code_at, can_write, is_lawful, with_bytes}
use Rattle.rv_machine.specs.declared.ended.Ended.{Ended}
use Rattle.rv_machine.specs.Core.{Core, Next, Goes, Faults, Reads, Prints, Exits, Stays, register, with_register, passed, stepped, exited}

-- a jump: its target has to be a multiple of 4
abbrev pub jumped : Core → (target : ℕ) → Next
jumped core target = if target % 4 == 0 then Goes (record core { pc = target; steps = core.steps + 1 }) else Faults fault.Jump target

-- the question that a branch asks of two words
abbrev pub holds : Op → ℕ → ℕ → Bool
holds op.Beq x y = x == y
holds op.Bne x y = not (x == y)
holds op.Blt x y = int_lt (signed x) (signed y)
holds op.Bge x y = not (int_lt (signed x) (signed y))
holds op.Bltu x y = nat_lt x y
holds op.Bgeu x y = not (nat_lt x y)
holds o x y = false

abbrev pub branched : Core → (offset : ℕ) → Bool → Next
branched core offset taken = if taken then jumped core ((core.pc + offset) % 2 ^ 32) else Goes (passed core)

abbrev pub loaded_from : Core → Op → (rd address : ℕ) → Option (List ℕ) → Next
loaded_from core o rd address None = Faults fault.Load address
loaded_from core o rd address (Some bytes) = Goes (stepped core rd (word_from (extends_sign o) bytes))

abbrev pub load : Core → Op → (rd address : ℕ) → Next
load core o rd address = if not (address % width_of o == 0) then Faults fault.LoadAlign address else loaded_from core o rd address (span core.memory.bytes address (width_of o))

abbrev pub store : Core → Op → (stored address : ℕ) → Next
store core o stored address =
    if not (address % width_of o == 0) then Faults fault.StoreAlign address
    else if can_write core.memory address (width_of o) then Goes (record (passed core) { memory = with_bytes core.memory address (bytes_from (width_of o) stored) })
    else Faults fault.Store address

abbrev pub operate : Core → (rd : ℕ) → Option Operation → ℕ → ℕ → Next
operate core rd (Some o) x y = Goes (stepped core rd (alu o x y))
operate core rd None x y = Faults fault.Illegal core.pc

-- ---- system calls: a7 is x17, and a0, a1, a2 are x10, x11, x12

abbrev pub answers : Core → ℕ → Next
answers core n = Goes (stepped core 10 n)

abbrev pub read_call : Core → (descriptor address len : ℕ) → Next
read_call core fd address len =
    if not (fd == 0) then answers core bad_descriptor
    else if len == 0 then answers core 0
    else if is_lawful core.memory address len true then Reads address len
    else answers core bad_span

abbrev pub prints : Core → (fd address len : ℕ) → Option (List ℕ) → Next
prints core fd address len None = answers core bad_span
prints core fd address len (Some bytes) = Prints fd address len bytes (stepped core 10 len)

abbrev pub write_call : Core → (fd address len : ℕ) → Next
write_call core fd address len =
    if not (is_printed fd) then answers core bad_descriptor
    else if len == 0 then answers core 0
    else if is_lawful core.memory address len false then prints core fd address len (span core.memory.bytes address len)
    else answers core bad_span

abbrev pub ecall : Core → (a7 : ℕ) → Next
ecall core a7 =
    if is_exit a7 then Exits (register core 10 % 256) (exited core (register core 10 % 256))
    else if is_read a7 then read_call core (register core 10) (register core 11) (register core 12)
    else if is_write a7 then write_call core (register core 10) (register core 11) (register core 12)
    else answers core no_call

abbrev pub system : Core → Op → Next
system core op.Ecall = ecall core (register core 17)
system core op.Ebreak = Faults fault.Break core.pc
system core op.Fence = Goes (passed core)
system core op.FenceI = Goes (passed core)
system core o = Faults fault.Illegal core.pc

-- ---- instructions

abbrev pub jump_and_link : Core → (rd target : ℕ) → (calls : List ℕ) → Next
jump_and_link core rd target calls = jumped (record core { regs = with_register core.regs rd (after core.pc); calls = calls }) target

abbrev pub executed : Core → Instr → Next
executed core (instr.Alu o rd rs1 rs2) = operate core rd (operation_of o) (register core rs1) (register core rs2)
executed core (instr.AluImm o rd rs1 imm) = operate core rd (operation_of o) (register core rs1) (imm_word imm)
executed core (instr.Lui rd top) = Goes (stepped core rd (top * 4096))
executed core (instr.Auipc rd top) = Goes (stepped core rd ((core.pc + top * 4096) % 2 ^ 32))
executed core (instr.Jal rd imm) = jump_and_link core rd ((core.pc + imm_word imm) % 2 ^ 32) (after_jal rd (after core.pc) core.calls)
executed core (instr.Jalr rd rs1 imm) = jump_and_link core rd (alu Add (register core rs1) (imm_word imm) / 2 * 2) (after_jalr rd rs1 (after core.pc) core.calls)
executed core (instr.Branch o rs1 rs2 imm) = branched core (imm_word imm) (holds o (register core rs1) (register core rs2))
executed core (instr.Load o rd rs1 imm) = load core o rd (alu Add (register core rs1) (imm_word imm))
executed core (instr.Store o rs1 rs2 imm) = store core o (register core rs2) (alu Add (register core rs1) (imm_word imm))
executed core (instr.System o) = system core o

abbrev pub decoded : Core → Option Instr → Next
decoded core None = Faults fault.Illegal core.pc
decoded core (Some i) = executed core i

abbrev pub fetched : Core → Option (List ℕ) → Next
fetched core None = Faults fault.Fetch core.pc
fetched core (Some word) = decoded core (row (from_le_bytes w32 word))

abbrev pub next_of : Core → Option Ended → Next
next_of core None = fetched core (span (code_at core.memory) core.pc 4)
next_of core (Some ended) = Stays ended

abbrev pub next : Core → Next
next core = next_of core core.ended
