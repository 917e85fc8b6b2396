-- What each next step says of the guest before it and after it.
use Rattle.std.proofs.Common.{◌≡◌, ◌<◌, ℕ, ◌+◌, ◌-◌, ◌*◌, ◌%◌, ◌/◌, ◌^◌, Bool, true, false, cond, not, ◌==◌, List, Option, None, Some, Result, Ok, Err, refl, arith}
use Rattle.std.proofs.lemmas.Bool.Decides.{nat_tests}
use Rattle.std.specs.Int.{w32, from_le_bytes}
use Rattle.infinite_heap.specs.declared.fault.FaultKind.TheVariants as fault
use Rattle.infinite_heap.specs.declared.instr.Instr.{Instr}
use Rattle.infinite_heap.specs.declared.instr.Instr.TheVariants as instr
use Rattle.infinite_heap.specs.declared.instr.Op.{Op}
use Rattle.infinite_heap.specs.declared.instr.Op.TheVariants as op
use Rattle.infinite_heap.specs.declared.instr.Operation.{Operation}
use Rattle.infinite_heap.specs.declared.instr.Operation.TheVariants.{Add}
use Rattle.infinite_heap.specs.declared.program.HeapCall.{HeapCall}
use Rattle.infinite_heap.specs.declared.program.HeapCall.TheVariants.{Malloc, Free, Calloc, Realloc, Memalign, AlignedAlloc, MallocR, FreeR, CallocR, ReallocR, MemalignR}
use Rattle.infinite_heap.specs.Alu.{alu}
use Rattle.infinite_heap.specs.Calls.{after_jal, after_jalr}
use Rattle.infinite_heap.specs.CallSite.{site_of}
use Rattle.infinite_heap.specs.InfiniteHeap.{call_at}
use Rattle.infinite_heap.specs.InfiniteState.{after}
use Rattle.infinite_heap.specs.InfiniteStep.{imm_word}
use Rattle.infinite_heap.specs.InfiniteSystem.{is_read, is_write, is_exit, is_printed, no_call, bad_descriptor, bad_span}
use Rattle.infinite_heap.specs.Memory.{width_of, bytes_from}
use Rattle.infinite_heap.specs.Operations.{operation_of}
use Rattle.infinite_heap.specs.Row.{row}
use Rattle.rv_memory.specs.Memory.{span, code_at, can_write, is_lawful, with_bytes}
use Rattle.exact_heap.specs.declared.signal.HeapRefusal.{HeapRefusal}
use Rattle.exact_heap.specs.declared.signal.HeapRefusal.TheVariants.{Room, Memory as NoMemory}
use Rattle.exact_heap.specs.Calls.{malloc, calloc, realloc, memalign}
use Rattle.exact_heap.specs.Placing.{HeapState, Outcome}
use Rattle.rv_machine.specs.Core.{Core, Next, Goes, Faults, Reads, Prints, Exits, Stays, register, with_register, passed, exited}
use Rattle.rv_machine.specs.Guest.{Guest, heap_of}
use Rattle.rv_machine.specs.HeapCalls.{Carries, answered, answers, called, call_from, guest_next, guest_next_at, guest_next_of}
use Rattle.rv_machine.specs.Shape.{IsShaped, IsOfCore, IsGuestShaped}
use Rattle.rv_machine.specs.Steps.{jumped, holds, loaded_from, operate, answers as goes_with, read_call, prints, write_call, ecall, system, executed, decoded, fetched, next, next_of}
use Rattle.rv_machine.specs.declared.ended.Ended.{Ended}

choose : (core : Core) (b : Bool) (x y : Next) → IsShaped core x → IsShaped core y → IsShaped core (cond b x y)
choose core true x y one two = one
choose core false x y one two = two

shaped-jumped : (core to : Core) (target : ℕ) → to.ended ≡ core.ended → IsShaped core (jumped to target)
shaped-jumped core to target same = choose core (target % 4 == 0) _ (Faults fault.Jump target) same tt

shaped-loaded : (core : Core) (o : Op) (rd address : ℕ) (s : Option (List ℕ)) → IsShaped core (loaded_from core o rd address s)
shaped-loaded core o rd address None = tt
shaped-loaded core o rd address (Some bytes) = refl

shaped-operate : (core : Core) (rd : ℕ) (o : Option Operation) (x y : ℕ) → IsShaped core (operate core rd o x y)
shaped-operate core rd None x y = tt
shaped-operate core rd (Some o) x y = refl

shaped-prints : (core : Core) (fd : ℕ) (s : Option (List ℕ)) → span core.memory.bytes (register core 11) (register core 12) ≡ s → 0 < register core 12 → IsShaped core (prints core fd (register core 11) (register core 12) s)
shaped-prints core fd None is some = refl
shaped-prints core fd (Some bytes) is some = (refl, refl, is, refl, some)

shaped-read : (core : Core) (fd : ℕ) → IsShaped core (read_call core fd (register core 11) (register core 12))
shaped-read core fd =
    choose core (not (fd == 0)) (goes_with core bad_descriptor) _ refl
    (choose core (register core 12 == 0) (goes_with core 0) _ refl
    (choose core (is_lawful core.memory (register core 11) (register core 12) true) (Reads (register core 11) (register core 12)) (goes_with core bad_span) (refl, refl) refl))

above-zero : (n : ℕ) → (n == 0) ≡ false → 0 < n
above-zero n is = grind (arith, nat_tests)

shaped-write : (core : Core) (fd : ℕ) → IsShaped core (write_call core fd (register core 11) (register core 12))
shaped-write core fd = choose core (not (is_printed fd)) (goes_with core bad_descriptor) _ refl (go (register core 12 == 0) refl)
  where
    go : (b : Bool) → (register core 12 == 0) ≡ b → IsShaped core (cond b (goes_with core 0) (cond (is_lawful core.memory (register core 11) (register core 12) false) (prints core fd (register core 11) (register core 12) (span core.memory.bytes (register core 11) (register core 12))) (goes_with core bad_span)))
    go true is = refl
    go false is =
        choose core (is_lawful core.memory (register core 11) (register core 12) false) (prints core fd (register core 11) (register core 12) (span core.memory.bytes (register core 11) (register core 12))) (goes_with core bad_span)
        (shaped-prints core fd (span core.memory.bytes (register core 11) (register core 12)) refl (above-zero (register core 12) is)) refl

shaped-ecall : (core : Core) (a7 : ℕ) → IsShaped core (ecall core a7)
shaped-ecall core a7 =
    choose core (is_exit a7) (Exits (register core 10 % 256) (exited core (register core 10 % 256))) _ refl
    (choose core (is_read a7) (read_call core (register core 10) (register core 11) (register core 12)) _ (shaped-read core (register core 10))
    (choose core (is_write a7) (write_call core (register core 10) (register core 11) (register core 12)) (goes_with core no_call) (shaped-write core (register core 10)) refl))

shaped-system : (core : Core) (o : Op) → IsShaped core (system core o)
shaped-system core op.Ecall = shaped-ecall core (register core 17)
shaped-system core op.Ebreak = tt
shaped-system core op.Fence = refl
shaped-system core op.FenceI = refl
shaped-system core o = tt

shaped-executed : (core : Core) (i : Instr) → IsShaped core (executed core i)
shaped-executed core (instr.Alu o rd rs1 rs2) = shaped-operate core rd (operation_of o) (register core rs1) (register core rs2)
shaped-executed core (instr.AluImm o rd rs1 imm) = shaped-operate core rd (operation_of o) (register core rs1) (imm_word imm)
shaped-executed core (instr.Lui rd top) = refl
shaped-executed core (instr.Auipc rd top) = refl
shaped-executed core (instr.Jal rd imm) = shaped-jumped core (record core { regs = with_register core.regs rd (after core.pc); calls = after_jal rd (after core.pc) core.calls }) ((core.pc + imm_word imm) % 2 ^ 32) refl
shaped-executed core (instr.Jalr rd rs1 imm) = shaped-jumped core (record core { regs = with_register core.regs rd (after core.pc); calls = after_jalr rd rs1 (after core.pc) core.calls }) (alu Add (register core rs1) (imm_word imm) / 2 * 2) refl
shaped-executed core (instr.Branch o rs1 rs2 imm) = choose core (holds o (register core rs1) (register core rs2)) (jumped core ((core.pc + imm_word imm) % 2 ^ 32)) (Goes (passed core)) (shaped-jumped core core ((core.pc + imm_word imm) % 2 ^ 32) refl) refl
shaped-executed core (instr.Load o rd rs1 imm) =
    let address : ℕ = alu Add (register core rs1) (imm_word imm) in
    choose core (not (address % width_of o == 0)) (Faults fault.LoadAlign address) (loaded_from core o rd address (span core.memory.bytes address (width_of o))) tt (shaped-loaded core o rd address (span core.memory.bytes address (width_of o)))
shaped-executed core (instr.Store o rs1 rs2 imm) =
    let address : ℕ = alu Add (register core rs1) (imm_word imm) in
    choose core (not (address % width_of o == 0)) (Faults fault.StoreAlign address) _ tt
    (choose core (can_write core.memory address (width_of o)) (Goes (record (passed core) { memory = with_bytes core.memory address (bytes_from (width_of o) (register core rs2)) })) (Faults fault.Store address) refl tt)
shaped-executed core (instr.System o) = shaped-system core o

shaped-decoded : (core : Core) (i : Option Instr) → IsShaped core (decoded core i)
shaped-decoded core None = tt
shaped-decoded core (Some i) = shaped-executed core i

shaped-fetched : (core : Core) (s : Option (List ℕ)) → IsShaped core (fetched core s)
shaped-fetched core None = tt
shaped-fetched core (Some word) = shaped-decoded core (row (from_le_bytes w32 word))

shaped-of : (core : Core) (e : Option Ended) → IsShaped core (next_of core e)
shaped-of core None = shaped-fetched core (span (code_at core.memory) core.pc 4)
shaped-of core (Some e) = tt

pub shaped : (core : Core) → IsShaped core (next core)
shaped core = shaped-of core core.ended

-- ---- a guest with its heap

of-core : (core : Core) (n : Next) → next core ≡ n → IsOfCore core n
of-core core (Goes to) is = tt
of-core core (Faults kind address) is = tt
of-core core (Reads address len) is = is
of-core core (Prints fd address len bytes to) is = is
of-core core (Exits code to) is = tt
of-core core (Stays e) is = tt

shaped-answered : (g : Guest) (back : ℕ) (s : HeapState) (answer : Result ℕ HeapRefusal) → IsGuestShaped g (answered g back s answer)
shaped-answered g back s (Ok address) = (refl, refl, refl)
shaped-answered g back s (Err (Room used wanted)) = (refl, refl, refl)
shaped-answered g back s (Err NoMemory) = (refl, refl, refl)

shaped-answers : (g : Guest) (back : ℕ) (outcome : Outcome) → IsGuestShaped g (answers g back outcome)
shaped-answers g back outcome = shaped-answered g back outcome.state outcome.answer

shaped-called : (g : Guest) (back : ℕ) (function : HeapCall) → IsGuestShaped g (called g back function)
shaped-called g back Malloc = shaped-answers g back (malloc g.rules (register g.core 10) (site_of g.core.calls) (heap_of g))
shaped-called g back MallocR = shaped-answers g back (malloc g.rules (register g.core 11) (site_of g.core.calls) (heap_of g))
shaped-called g back Free = (refl, refl, refl)
shaped-called g back FreeR = (refl, refl, refl)
shaped-called g back Calloc = shaped-answers g back (calloc g.rules (register g.core 10) (register g.core 11) (site_of g.core.calls) (heap_of g))
shaped-called g back CallocR = shaped-answers g back (calloc g.rules (register g.core 11) (register g.core 12) (site_of g.core.calls) (heap_of g))
shaped-called g back Realloc = shaped-answers g back (realloc g.rules (register g.core 10) (register g.core 11) (site_of g.core.calls) (heap_of g))
shaped-called g back ReallocR = shaped-answers g back (realloc g.rules (register g.core 11) (register g.core 12) (site_of g.core.calls) (heap_of g))
shaped-called g back Memalign = shaped-answers g back (memalign g.rules (register g.core 10) (register g.core 11) (site_of g.core.calls) (heap_of g))
shaped-called g back AlignedAlloc = shaped-answers g back (memalign g.rules (register g.core 10) (register g.core 11) (site_of g.core.calls) (heap_of g))
shaped-called g back MemalignR = shaped-answers g back (memalign g.rules (register g.core 11) (register g.core 12) (site_of g.core.calls) (heap_of g))

shaped-from : (g : Guest) (back : ℕ) (function : HeapCall) → IsGuestShaped g (call_from g back function)
shaped-from g back function = go (back % 4 == 0)
  where
    go : (b : Bool) → IsGuestShaped g (cond b (called g back function) (Carries (Faults fault.Jump back)))
    go true = shaped-called g back function
    go false = (tt, tt)

shaped-at : (g : Guest) (function : Option HeapCall) → IsGuestShaped g (guest_next_at g function)
shaped-at g (Some function) = shaped-from g (register g.core 1 - register g.core 1 % 2) function
shaped-at g None = (shaped g.core, of-core g.core (next g.core) refl)

shaped-guest-of : (g : Guest) (e : Option Ended) → IsGuestShaped g (guest_next_of g e)
shaped-guest-of g (Some e) = (tt, tt)
shaped-guest-of g None = shaped-at g (call_at g.names g.core.pc)

pub guest-shaped : (g : Guest) → IsGuestShaped g (guest_next g)
guest-shaped g = shaped-guest-of g g.core.ended
