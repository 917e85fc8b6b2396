-- Each step that doesn't fault and finds room counts one.
use Rattle.std.proofs.Common.{◌≡◌, ◌<◌, ℕ, ◌+◌, ◌-◌, ◌*◌, ◌%◌, ◌/◌, ◌^◌, Bool, true, false, cond, not, ◌==◌, List, Option, None, Some, Result, Ok, Err, refl, ap, arith}
use Rattle.std.proofs.lemmas.Bool.Decides.{nat_tests}
use Rattle.std.specs.Int.{w32, from_le_bytes}
use Rattle.infinite_heap.specs.declared.fault.FaultKind.TheVariants as fault
use Rattle.infinite_heap.specs.declared.instr.Instr.{Instr}
use Rattle.infinite_heap.specs.declared.instr.Instr.TheVariants as instr
use Rattle.infinite_heap.specs.declared.instr.Op.{Op}
use Rattle.infinite_heap.specs.declared.instr.Op.TheVariants as op
use Rattle.infinite_heap.specs.declared.instr.Operation.{Operation}
use Rattle.infinite_heap.specs.declared.instr.Operation.TheVariants.{Add}
use Rattle.infinite_heap.specs.declared.program.HeapCall.{HeapCall}
use Rattle.infinite_heap.specs.declared.program.HeapCall.TheVariants.{Malloc, Free, Calloc, Realloc, Memalign, AlignedAlloc, MallocR, FreeR, CallocR, ReallocR, MemalignR}
use Rattle.infinite_heap.specs.Alu.{alu}
use Rattle.infinite_heap.specs.Calls.{after_jal, after_jalr}
use Rattle.infinite_heap.specs.CallSite.{site_of}
use Rattle.infinite_heap.specs.InfiniteHeap.{call_at}
use Rattle.infinite_heap.specs.InfiniteState.{after}
use Rattle.infinite_heap.specs.InfiniteStep.{imm_word}
use Rattle.infinite_heap.specs.InfiniteSystem.{is_read, is_write, is_exit, is_printed, no_call, bad_descriptor, bad_span}
use Rattle.infinite_heap.specs.Memory.{width_of, bytes_from}
use Rattle.infinite_heap.specs.Operations.{operation_of}
use Rattle.infinite_heap.specs.Row.{row}
use Rattle.rv_memory.specs.Memory.{span, code_at, can_write, is_lawful, with_bytes}
use Rattle.exact_heap.specs.declared.signal.HeapRefusal.{HeapRefusal}
use Rattle.exact_heap.specs.declared.signal.HeapRefusal.TheVariants.{Room, Memory as NoMemory}
use Rattle.exact_heap.specs.Calls.{malloc, calloc, realloc, memalign}
use Rattle.exact_heap.specs.Placing.{HeapState, Outcome}
use Rattle.rv_machine.specs.Core.{Core, Next, Goes, Faults, Reads, Exits, register, with_register, passed, exited}
use Rattle.rv_machine.specs.Guest.{Guest, heap_of}
use Rattle.rv_machine.specs.HeapCalls.{Carries, answered, answers, called, call_from, guest_next, guest_next_at, guest_next_of}
use Rattle.replicate.specs.Counted.{IsCounted, IsGuestCounted}
use Rattle.rv_machine.specs.Steps.{jumped, holds, loaded_from, operate, answers as goes_with, read_call, prints, write_call, ecall, system, executed, decoded, fetched, next, next_of}
use Rattle.rv_machine.specs.declared.ended.Ended.{Ended}

choose : (core : Core) (b : Bool) (x y : Next) → IsCounted core x → IsCounted core y → IsCounted core (cond b x y)
choose core true x y one two = one
choose core false x y one two = two

counted-jumped : (core to : Core) (target : ℕ) → to.steps ≡ core.steps → IsCounted core (jumped to target)
counted-jumped core to target same = choose core (target % 4 == 0) _ (Faults fault.Jump target) (ap (λ n. n + 1) same) tt

counted-loaded : (core : Core) (o : Op) (rd address : ℕ) (s : Option (List ℕ)) → IsCounted core (loaded_from core o rd address s)
counted-loaded core o rd address None = tt
counted-loaded core o rd address (Some bytes) = refl

counted-operate : (core : Core) (rd : ℕ) (o : Option Operation) (x y : ℕ) → IsCounted core (operate core rd o x y)
counted-operate core rd None x y = tt
counted-operate core rd (Some o) x y = refl

counted-prints : (core : Core) (fd : ℕ) (s : Option (List ℕ)) → span core.memory.bytes (register core 11) (register core 12) ≡ s → 0 < register core 12 → IsCounted core (prints core fd (register core 11) (register core 12) s)
counted-prints core fd None is some = refl
counted-prints core fd (Some bytes) is some = refl

counted-read : (core : Core) (fd : ℕ) → IsCounted core (read_call core fd (register core 11) (register core 12))
counted-read core fd =
    choose core (not (fd == 0)) (goes_with core bad_descriptor) _ refl
    (choose core (register core 12 == 0) (goes_with core 0) _ refl
    (choose core (is_lawful core.memory (register core 11) (register core 12) true) (Reads (register core 11) (register core 12)) (goes_with core bad_span) tt refl))

above-zero : (n : ℕ) → (n == 0) ≡ false → 0 < n
above-zero n is = grind (arith, nat_tests)

counted-write : (core : Core) (fd : ℕ) → IsCounted core (write_call core fd (register core 11) (register core 12))
counted-write core fd = choose core (not (is_printed fd)) (goes_with core bad_descriptor) _ refl (go (register core 12 == 0) refl)
  where
    go : (b : Bool) → (register core 12 == 0) ≡ b → IsCounted core (cond b (goes_with core 0) (cond (is_lawful core.memory (register core 11) (register core 12) false) (prints core fd (register core 11) (register core 12) (span core.memory.bytes (register core 11) (register core 12))) (goes_with core bad_span)))
    go true is = refl
    go false is =
        choose core (is_lawful core.memory (register core 11) (register core 12) false) (prints core fd (register core 11) (register core 12) (span core.memory.bytes (register core 11) (register core 12))) (goes_with core bad_span)
        (counted-prints core fd (span core.memory.bytes (register core 11) (register core 12)) refl (above-zero (register core 12) is)) refl

counted-ecall : (core : Core) (a7 : ℕ) → IsCounted core (ecall core a7)
counted-ecall core a7 =
    choose core (is_exit a7) (Exits (register core 10 % 256) (exited core (register core 10 % 256))) _ refl
    (choose core (is_read a7) (read_call core (register core 10) (register core 11) (register core 12)) _ (counted-read core (register core 10))
    (choose core (is_write a7) (write_call core (register core 10) (register core 11) (register core 12)) (goes_with core no_call) (counted-write core (register core 10)) refl))

counted-system : (core : Core) (o : Op) → IsCounted core (system core o)
counted-system core op.Ecall = counted-ecall core (register core 17)
counted-system core op.Ebreak = tt
counted-system core op.Fence = refl
counted-system core op.FenceI = refl
counted-system core o = tt

counted-executed : (core : Core) (i : Instr) → IsCounted core (executed core i)
counted-executed core (instr.Alu o rd rs1 rs2) = counted-operate core rd (operation_of o) (register core rs1) (register core rs2)
counted-executed core (instr.AluImm o rd rs1 imm) = counted-operate core rd (operation_of o) (register core rs1) (imm_word imm)
counted-executed core (instr.Lui rd top) = refl
counted-executed core (instr.Auipc rd top) = refl
counted-executed core (instr.Jal rd imm) = counted-jumped core (record core { regs = with_register core.regs rd (after core.pc); calls = after_jal rd (after core.pc) core.calls }) ((core.pc + imm_word imm) % 2 ^ 32) refl
counted-executed core (instr.Jalr rd rs1 imm) = counted-jumped core (record core { regs = with_register core.regs rd (after core.pc); calls = after_jalr rd rs1 (after core.pc) core.calls }) (alu Add (register core rs1) (imm_word imm) / 2 * 2) refl
counted-executed core (instr.Branch o rs1 rs2 imm) = choose core (holds o (register core rs1) (register core rs2)) (jumped core ((core.pc + imm_word imm) % 2 ^ 32)) (Goes (passed core)) (counted-jumped core core ((core.pc + imm_word imm) % 2 ^ 32) refl) refl
counted-executed core (instr.Load o rd rs1 imm) =
    let address : ℕ = alu Add (register core rs1) (imm_word imm) in
    choose core (not (address % width_of o == 0)) (Faults fault.LoadAlign address) (loaded_from core o rd address (span core.memory.bytes address (width_of o))) tt (counted-loaded core o rd address (span core.memory.bytes address (width_of o)))
counted-executed core (instr.Store o rs1 rs2 imm) =
    let address : ℕ = alu Add (register core rs1) (imm_word imm) in
    choose core (not (address % width_of o == 0)) (Faults fault.StoreAlign address) _ tt
    (choose core (can_write core.memory address (width_of o)) (Goes (record (passed core) { memory = with_bytes core.memory address (bytes_from (width_of o) (register core rs2)) })) (Faults fault.Store address) refl tt)
counted-executed core (instr.System o) = counted-system core o

counted-decoded : (core : Core) (i : Option Instr) → IsCounted core (decoded core i)
counted-decoded core None = tt
counted-decoded core (Some i) = counted-executed core i

counted-fetched : (core : Core) (s : Option (List ℕ)) → IsCounted core (fetched core s)
counted-fetched core None = tt
counted-fetched core (Some word) = counted-decoded core (row (from_le_bytes w32 word))

counted-of : (core : Core) (e : Option Ended) → core.ended ≡ e → IsCounted core (next_of core e)
counted-of core None is = counted-fetched core (span (code_at core.memory) core.pc 4)
counted-of core (Some e) is = is

counted : (core : Core) → IsCounted core (next core)
counted core = counted-of core core.ended refl

-- ---- a guest with its heap

counted-answered : (g : Guest) (back : ℕ) (s : HeapState) (answer : Result ℕ HeapRefusal) → IsGuestCounted g (answered g back s answer)
counted-answered g back s (Ok address) = refl
counted-answered g back s (Err (Room used wanted)) = refl
counted-answered g back s (Err NoMemory) = refl

counted-answers : (g : Guest) (back : ℕ) (outcome : Outcome) → IsGuestCounted g (answers g back outcome)
counted-answers g back outcome = counted-answered g back outcome.state outcome.answer

counted-called : (g : Guest) (back : ℕ) (function : HeapCall) → IsGuestCounted g (called g back function)
counted-called g back Malloc = counted-answers g back (malloc g.rules (register g.core 10) (site_of g.core.calls) (heap_of g))
counted-called g back MallocR = counted-answers g back (malloc g.rules (register g.core 11) (site_of g.core.calls) (heap_of g))
counted-called g back Free = refl
counted-called g back FreeR = refl
counted-called g back Calloc = counted-answers g back (calloc g.rules (register g.core 10) (register g.core 11) (site_of g.core.calls) (heap_of g))
counted-called g back CallocR = counted-answers g back (calloc g.rules (register g.core 11) (register g.core 12) (site_of g.core.calls) (heap_of g))
counted-called g back Realloc = counted-answers g back (realloc g.rules (register g.core 10) (register g.core 11) (site_of g.core.calls) (heap_of g))
counted-called g back ReallocR = counted-answers g back (realloc g.rules (register g.core 11) (register g.core 12) (site_of g.core.calls) (heap_of g))
counted-called g back Memalign = counted-answers g back (memalign g.rules (register g.core 10) (register g.core 11) (site_of g.core.calls) (heap_of g))
counted-called g back AlignedAlloc = counted-answers g back (memalign g.rules (register g.core 10) (register g.core 11) (site_of g.core.calls) (heap_of g))
counted-called g back MemalignR = counted-answers g back (memalign g.rules (register g.core 11) (register g.core 12) (site_of g.core.calls) (heap_of g))

counted-from : (g : Guest) (back : ℕ) (function : HeapCall) → IsGuestCounted g (call_from g back function)
counted-from g back function = go (back % 4 == 0)
  where
    go : (b : Bool) → IsGuestCounted g (cond b (called g back function) (Carries (Faults fault.Jump back)))
    go true = counted-called g back function
    go false = tt

counted-at : (g : Guest) (function : Option HeapCall) → IsGuestCounted g (guest_next_at g function)
counted-at g (Some function) = counted-from g (register g.core 1 - register g.core 1 % 2) function
counted-at g None = counted g.core

counted-guest-of : (g : Guest) (e : Option Ended) → g.core.ended ≡ e → IsGuestCounted g (guest_next_of g e)
counted-guest-of g (Some e) is = is
counted-guest-of g None is = counted-at g (call_at g.names g.core.pc)

pub guest-counted : (g : Guest) → IsGuestCounted g (guest_next g)
guest-counted g = counted-guest-of g g.core.ended refl
