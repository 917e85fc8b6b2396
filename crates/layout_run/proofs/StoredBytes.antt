-- Which bytes an instruction changes: those that it stores to, and no other.
use Rattle.std.proofs.Common.{◌≡◌, ℕ, ◌+◌, ◌-◌, ◌*◌, ◌%◌, ◌/◌, ◌^◌, Bool, true, false, cond, not, ◌==◌, ◌⊎◌, inl, inr, List, length, Option, None, Some, refl, ap, sym, ◌∙◌, subst}
use Rattle.std.specs.Prelude.{slice_index}
use Rattle.std.specs.Int.{w32, from_le_bytes}
use Rattle.std.proofs.lemmas.Bool.{true≢false}
use Rattle.infinite_heap.specs.declared.fault.FaultKind.TheVariants as fault
use Rattle.infinite_heap.specs.declared.instr.Instr.{Instr}
use Rattle.infinite_heap.specs.declared.instr.Instr.TheVariants as instr
use Rattle.infinite_heap.specs.declared.instr.Op.{Op}
use Rattle.infinite_heap.specs.declared.instr.Op.TheVariants as op
use Rattle.infinite_heap.specs.declared.instr.Operation.{Operation}
use Rattle.infinite_heap.specs.declared.instr.Operation.TheVariants.{Add}
use Rattle.infinite_heap.specs.Alu.{alu}
use Rattle.infinite_heap.specs.Calls.{after_jal, after_jalr}
use Rattle.infinite_heap.specs.InfiniteState.{after}
use Rattle.infinite_heap.specs.InfiniteStep.{imm_word}
use Rattle.infinite_heap.specs.InfiniteSystem.{is_read, is_write, is_exit, is_printed, no_call, bad_descriptor, bad_span}
use Rattle.infinite_heap.specs.Memory.{width_of, bytes_from}
use Rattle.infinite_heap.specs.Operations.{operation_of}
use Rattle.infinite_heap.specs.Row.{row}
use Rattle.rv_memory.specs.Memory.{Memory, within, span, code_at, can_write, is_lawful, with_bytes}
use Rattle.rv_machine.specs.declared.ended.Ended.{Ended}
use Rattle.rv_machine.specs.Core.{Core, Next, Goes, Faults, Reads, Prints, Exits, Stays, register, with_register, passed, exited}
use Rattle.rv_machine.specs.Steps.{jumped, holds, loaded_from, operate, answers, read_call, prints, write_call, ecall, system, executed, decoded, fetched, next, next_of}
use Rattle.layout_run.specs.Stored.{word_at, instruction_at, StoresTo}

-- ---- one address

-- an address is written, and holds a byte, or it isn't, and holds what it did
abbrev pub Puts : (writes : Type 0) (old new : Option ℕ) → Type 0
Puts writes old new = (writes × ((byte : ℕ) × (new ≡ Some byte))) ⊎ ((¬ writes) × (new ≡ old))

-- bytes that are put down change the span of their number, and no other byte
pub puts_bytes : (memory : Memory) (from len : ℕ) (bytes : List ℕ) → length bytes ≡ len → (address : ℕ) → Puts (within from len address ≡ true) (memory.bytes address) ((with_bytes memory from bytes).bytes address)
puts_bytes memory from len bytes e address =
    subst (λ (n : ℕ). Puts (within from n address ≡ true) (memory.bytes address) ((with_bytes memory from bytes).bytes address)) e (at (within from (length bytes) address) refl)
  where
    at : (b : Bool) → within from (length bytes) address ≡ b → Puts (within from (length bytes) address ≡ true) (memory.bytes address) (cond (within from (length bytes) address) (Some (slice_index bytes (address - from))) (memory.bytes address))
    at true w = inl (w, (slice_index bytes (address - from), ap (λ (b : Bool). cond b (Some (slice_index bytes (address - from))) (memory.bytes address)) w))
    at false w = inr (λ t. true≢false (sym t ∙ w), ap (λ (b : Bool). cond b (Some (slice_index bytes (address - from))) (memory.bytes address)) w)

-- ---- instructions that don't store

-- what goes on has the memory as it was
abbrev KeepsMemory : Core → Next → Type 0
KeepsMemory core (Goes to) = to.memory ≡ core.memory
KeepsMemory core (Prints fd address len bytes to) = to.memory ≡ core.memory
KeepsMemory core (Exits code to) = to.memory ≡ core.memory
KeepsMemory core other = Unit {0}

keeps_either : (core : Core) (b : Bool) (x y : Next) → KeepsMemory core x → KeepsMemory core y → KeepsMemory core (cond b x y)
keeps_either core true x y one two = one
keeps_either core false x y one two = two

keeps_jumped : (core to : Core) (target : ℕ) → to.memory ≡ core.memory → KeepsMemory core (jumped to target)
keeps_jumped core to target same = keeps_either core (target % 4 == 0) _ (Faults fault.Jump target) same tt

keeps_loaded : (core : Core) (o : Op) (rd address : ℕ) (found : Option (List ℕ)) → KeepsMemory core (loaded_from core o rd address found)
keeps_loaded core o rd address None = tt
keeps_loaded core o rd address (Some bytes) = refl

keeps_operate : (core : Core) (rd : ℕ) (o : Option Operation) (x y : ℕ) → KeepsMemory core (operate core rd o x y)
keeps_operate core rd None x y = tt
keeps_operate core rd (Some o) x y = refl

keeps_prints : (core : Core) (fd address len : ℕ) (found : Option (List ℕ)) → KeepsMemory core (prints core fd address len found)
keeps_prints core fd address len None = refl
keeps_prints core fd address len (Some bytes) = refl

keeps_read : (core : Core) (fd address len : ℕ) → KeepsMemory core (read_call core fd address len)
keeps_read core fd address len =
    keeps_either core (not (fd == 0)) (answers core bad_descriptor) _ refl
    (keeps_either core (len == 0) (answers core 0) _ refl
    (keeps_either core (is_lawful core.memory address len true) (Reads address len) (answers core bad_span) tt refl))

keeps_write : (core : Core) (fd address len : ℕ) → KeepsMemory core (write_call core fd address len)
keeps_write core fd address len =
    keeps_either core (not (is_printed fd)) (answers core bad_descriptor) _ refl
    (keeps_either core (len == 0) (answers core 0) _ refl
    (keeps_either core (is_lawful core.memory address len false) (prints core fd address len (span core.memory.bytes address len)) (answers core bad_span) (keeps_prints core fd address len (span core.memory.bytes address len)) refl))

keeps_ecall : (core : Core) (a7 : ℕ) → KeepsMemory core (ecall core a7)
keeps_ecall core a7 =
    keeps_either core (is_exit a7) (Exits (register core 10 % 256) (exited core (register core 10 % 256))) _ refl
    (keeps_either core (is_read a7) (read_call core (register core 10) (register core 11) (register core 12)) _ (keeps_read core (register core 10) (register core 11) (register core 12))
    (keeps_either core (is_write a7) (write_call core (register core 10) (register core 11) (register core 12)) (answers core no_call) (keeps_write core (register core 10) (register core 11) (register core 12)) refl))

keeps_system : (core : Core) (o : Op) → KeepsMemory core (system core o)
keeps_system core op.Ecall = keeps_ecall core (register core 17)
keeps_system core op.Ebreak = tt
keeps_system core op.Fence = refl
keeps_system core op.FenceI = refl
keeps_system core o = tt

-- ---- all instructions

-- what goes on after an instruction: of each address, whether it was stored to, and its byte
abbrev PutsBy : Core → Option Instr → Next → (address : ℕ) → Type 0
PutsBy core i (Goes to) address = Puts (StoresTo core i address) (core.memory.bytes address) (to.memory.bytes address)
PutsBy core i (Prints fd from len bytes to) address = to.memory.bytes address ≡ core.memory.bytes address
PutsBy core i (Exits code to) address = to.memory.bytes address ≡ core.memory.bytes address
PutsBy core i other address = Unit {0}

puts_kept : (core : Core) (i : Option Instr) (n : Next) (address : ℕ) → ¬ (StoresTo core i address) → KeepsMemory core n → PutsBy core i n address
puts_kept core i (Goes to) address never same = inr (never, ap (λ (m : Memory). m.bytes address) same)
puts_kept core i (Prints fd from len bytes to) address never same = ap (λ (m : Memory). m.bytes address) same
puts_kept core i (Exits code to) address never same = ap (λ (m : Memory). m.bytes address) same
puts_kept core i (Faults kind at) address never same = tt
puts_kept core i (Reads from len) address never same = tt
puts_kept core i (Stays ended) address never same = tt

puts_either : (core : Core) (i : Option Instr) (address : ℕ) (b : Bool) (x y : Next) → PutsBy core i x address → PutsBy core i y address → PutsBy core i (cond b x y) address
puts_either core i address true x y one two = one
puts_either core i address false x y one two = two

width_bytes : (o : Op) (x : ℕ) → length (bytes_from (width_of o) x) ≡ width_of o
width_bytes op.Lb x = refl
width_bytes op.Lbu x = refl
width_bytes op.Sb x = refl
width_bytes op.Lh x = refl
width_bytes op.Lhu x = refl
width_bytes op.Sh x = refl
width_bytes op.Lw x = refl
width_bytes op.Sw x = refl
width_bytes o x = refl

puts_executed : (core : Core) (i : Instr) (address : ℕ) → PutsBy core (Some i) (executed core i) address
puts_executed core (instr.Alu o rd rs1 rs2) address = puts_kept core (Some (instr.Alu o rd rs1 rs2)) (operate core rd (operation_of o) (register core rs1) (register core rs2)) address (λ never. never) (keeps_operate core rd (operation_of o) (register core rs1) (register core rs2))
puts_executed core (instr.AluImm o rd rs1 imm) address = puts_kept core (Some (instr.AluImm o rd rs1 imm)) (operate core rd (operation_of o) (register core rs1) (imm_word imm)) address (λ never. never) (keeps_operate core rd (operation_of o) (register core rs1) (imm_word imm))
puts_executed core (instr.Lui rd top) address = inr (λ never. never, refl)
puts_executed core (instr.Auipc rd top) address = inr (λ never. never, refl)
puts_executed core (instr.Jal rd imm) address =
    puts_kept core (Some (instr.Jal rd imm)) (executed core (instr.Jal rd imm)) address (λ never. never)
    (keeps_jumped core (record core { regs = with_register core.regs rd (after core.pc); calls = after_jal rd (after core.pc) core.calls }) ((core.pc + imm_word imm) % 2 ^ 32) refl)
puts_executed core (instr.Jalr rd rs1 imm) address =
    puts_kept core (Some (instr.Jalr rd rs1 imm)) (executed core (instr.Jalr rd rs1 imm)) address (λ never. never)
    (keeps_jumped core (record core { regs = with_register core.regs rd (after core.pc); calls = after_jalr rd rs1 (after core.pc) core.calls }) (alu Add (register core rs1) (imm_word imm) / 2 * 2) refl)
puts_executed core (instr.Branch o rs1 rs2 imm) address =
    puts_kept core (Some (instr.Branch o rs1 rs2 imm)) (executed core (instr.Branch o rs1 rs2 imm)) address (λ never. never)
    (keeps_either core (holds o (register core rs1) (register core rs2)) (jumped core ((core.pc + imm_word imm) % 2 ^ 32)) (Goes (passed core)) (keeps_jumped core core ((core.pc + imm_word imm) % 2 ^ 32) refl) refl)
puts_executed core (instr.Load o rd rs1 imm) address =
    let from : ℕ = alu Add (register core rs1) (imm_word imm) in
    puts_kept core (Some (instr.Load o rd rs1 imm)) (executed core (instr.Load o rd rs1 imm)) address (λ never. never)
    (keeps_either core (not (from % width_of o == 0)) (Faults fault.LoadAlign from) (loaded_from core o rd from (span core.memory.bytes from (width_of o))) tt (keeps_loaded core o rd from (span core.memory.bytes from (width_of o))))
puts_executed core (instr.Store o rs1 rs2 imm) address =
    let from : ℕ = alu Add (register core rs1) (imm_word imm) in
    let i : Option Instr = Some (instr.Store o rs1 rs2 imm) in
    puts_either core i address (not (from % width_of o == 0)) (Faults fault.StoreAlign from) _ tt
    (puts_either core i address (can_write core.memory from (width_of o)) (Goes (record (passed core) { memory = with_bytes core.memory from (bytes_from (width_of o) (register core rs2)) })) (Faults fault.Store from)
    (puts_bytes core.memory from (width_of o) (bytes_from (width_of o) (register core rs2)) (width_bytes o (register core rs2)) address) tt)
puts_executed core (instr.System o) address = puts_kept core (Some (instr.System o)) (system core o) address (λ never. never) (keeps_system core o)

puts_decoded : (core : Core) (i : Option Instr) (address : ℕ) → PutsBy core i (decoded core i) address
puts_decoded core None address = tt
puts_decoded core (Some i) address = puts_executed core i address

puts_fetched : (core : Core) (word : Option (List ℕ)) (address : ℕ) → PutsBy core (word_at word) (fetched core word) address
puts_fetched core None address = tt
puts_fetched core (Some word) address = puts_decoded core (row (from_le_bytes w32 word)) address

puts_of : (core : Core) (e : Option Ended) (address : ℕ) → PutsBy core (instruction_at core) (next_of core e) address
puts_of core None address = puts_fetched core (span (code_at core.memory) core.pc 4) address
puts_of core (Some e) address = tt

-- the next step of a core, which is a store or isn't
abbrev pub PutsNext : Core → Next → Type 0
PutsNext core n = (address : ℕ) → PutsBy core (instruction_at core) n address

pub puts_next : (core : Core) → PutsNext core (next core)
puts_next core = puts_of core core.ended
