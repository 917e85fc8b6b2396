-- Runs keep what is mapped.
use Rattle.std.proofs.Common.{◌≡◌, ℕ, zero, suc, ◌+◌, ◌-◌, ◌*◌, ◌%◌, ◌/◌, ◌^◌, ◌<◌, ◌≤◌, Bool, true, false, cond, not, ◌==◌, ◌&&◌, nat_le, arith, List, [], ◌∷◌, length, drop, Option, None, Some, Result, Ok, Err, refl, ◌∙◌}
use Rattle.std.specs.Prelude.{⊤, All}
use Rattle.std.specs.Int.{w32, from_le_bytes}
use Rattle.std.proofs.lemmas.Bool.{lt-ltb}
use Rattle.std.proofs.lemmas.Bool.Decides.{nat_tests}
use Rattle.miniheap.specs.Layout.{heap_from}
use Rattle.infinite_heap.specs.declared.fault.FaultKind.TheVariants as fault
use Rattle.infinite_heap.specs.declared.instr.Instr.{Instr}
use Rattle.infinite_heap.specs.declared.instr.Instr.TheVariants as instr
use Rattle.infinite_heap.specs.declared.instr.Op.{Op}
use Rattle.infinite_heap.specs.declared.instr.Op.TheVariants as op
use Rattle.infinite_heap.specs.declared.instr.Operation.{Operation}
use Rattle.infinite_heap.specs.declared.instr.Operation.TheVariants.{Add}
use Rattle.infinite_heap.specs.declared.program.HeapCall.{HeapCall}
use Rattle.infinite_heap.specs.declared.program.HeapCall.TheVariants.{Malloc, Free, Calloc, Realloc, Memalign, AlignedAlloc, MallocR, FreeR, CallocR, ReallocR, MemalignR}
use Rattle.infinite_heap.specs.Alu.{alu}
use Rattle.infinite_heap.specs.Calls.{after_jal, after_jalr}
use Rattle.infinite_heap.specs.CallSite.{site_of}
use Rattle.infinite_heap.specs.InfiniteHeap.{call_at}
use Rattle.infinite_heap.specs.InfiniteRun.{inf_mapping}
use Rattle.infinite_heap.specs.InfiniteState.{after}
use Rattle.infinite_heap.specs.InfiniteStep.{imm_word}
use Rattle.infinite_heap.specs.InfiniteSystem.{is_read, is_write, is_exit, is_printed, no_call, bad_descriptor, bad_span, taken}
use Rattle.infinite_heap.specs.Layout.{Layout}
use Rattle.infinite_heap.specs.Mapped.{Mapping}
use Rattle.infinite_heap.specs.Memory.{width_of, bytes_from}
use Rattle.infinite_heap.specs.Values.{byte}
use Rattle.infinite_heap.specs.Operations.{operation_of}
use Rattle.infinite_heap.specs.Region.{in_region}
use Rattle.infinite_heap.specs.Row.{row}
use Rattle.rv_memory.specs.Memory.{Memory, span, code_at, can_write, is_lawful, with_bytes}
use Rattle.rv_memory.specs.Laws.{at_each, from_each}
use Rattle.miniheap.specs.Slots.{end_of}
use Rattle.exact_heap.specs.declared.signal.HeapRefusal.{HeapRefusal}
use Rattle.exact_heap.specs.declared.signal.HeapRefusal.TheVariants.{Room, Memory as NoMemory}
use Rattle.exact_heap.specs.Calls.{malloc, calloc, memalign, free, realloc}
use Rattle.exact_heap.specs.History.{slots_of}
use Rattle.exact_heap.specs.Placing.{HeapState, Rules, Outcome}
use Rattle.exact_heap.specs.Laws.{BeginsLawful, MallocIsLawful, CallocIsLawful, MemalignIsLawful, FreeIsLawful, ReallocIsLawful}
use Rattle.exact_heap.specs.Lawful.{IsLawful}
use Rattle.exact_heap.specs.Mapped.{MapsMiniheaps, MallocKeepsMapped, CallocKeepsMapped, MemalignKeepsMapped, FreeKeepsMapped, ReallocKeepsMapped}
use Rattle.rv_machine.specs.declared.ended.Ended.{Ended}
use Rattle.rv_machine.specs.Core.{Core, Next, Goes, Faults, Reads, Prints, Exits, Stays, register, with_register, passed, exited}
use Rattle.rv_machine.specs.Flat.{Flat, carried, after_step, flat_step, flat_steps, flat_run}
use Rattle.rv_machine.specs.Guest.{Guest, heap_of, guest_start}
use Rattle.rv_machine.specs.HeapCalls.{GuestNext, Carries, Returns, Lacks, answered, answers, called, call_from, guest_next, guest_next_at, guest_next_of}
use Rattle.rv_machine.specs.Laws.{AllBytes, StepsStayMapped, RunsStayMapped}
use Rattle.rv_machine.specs.Matches.{MapsAlike, IsMapped}
use Rattle.rv_machine.specs.Objects.{layout_of}
use Rattle.rv_machine.specs.Steps.{jumped, holds, loaded_from, operate, answers as goes_with, read_call, prints, write_call, ecall, system, executed, decoded, fetched, next_of}
use Rattle.rv_machine.proofs.Begun.{maps_alike}
use Rattle.rv_machine.proofs.Called.{all-take, all-drop, length-take_le}
use Rattle.rv_machine.proofs.Kept.{maps-written}
use Rattle.rv_machine.proofs.Spanned.{two_ways}

-- ---- instructions

-- what a step of a core leaves is mapped, and it reads where it may write
abbrev Keeps : Layout → Mapping → Core → Next → Type 0
Keeps l p core (Goes to) = MapsAlike l p to.memory
Keeps l p core (Prints fd address len bytes to) = MapsAlike l p to.memory
Keeps l p core (Exits code to) = MapsAlike l p to.memory
Keeps l p core (Reads address len) = can_write core.memory address len ≡ true
Keeps l p core (Faults kind address) = ⊤
Keeps l p core (Stays ended) = ⊤

choose : (l : Layout) (p : Mapping) (core : Core) (b : Bool) (x y : Next) → Keeps l p core x → Keeps l p core y → Keeps l p core (cond b x y)
choose l p core true x y one two = one
choose l p core false x y one two = two

-- and where the test matters
choose-if : (l : Layout) (p : Mapping) (core : Core) (b : Bool) (x y : Next) → (b ≡ true → Keeps l p core x) → Keeps l p core y → Keeps l p core (cond b x y)
choose-if l p core b x y one two = two_ways b (λ t. Keeps l p core (cond t x y)) one (λ e. two)

keeps-jumped : (l : Layout) (p : Mapping) (core to : Core) (target : ℕ) → MapsAlike l p to.memory → Keeps l p core (jumped to target)
keeps-jumped l p core to target m = choose l p core (target % 4 == 0) _ (Faults fault.Jump target) m tt

keeps-loaded : (l : Layout) (p : Mapping) (core : Core) → MapsAlike l p core.memory → (o : Op) (rd address : ℕ) (s : Option (List ℕ)) → Keeps l p core (loaded_from core o rd address s)
keeps-loaded l p core m o rd address None = tt
keeps-loaded l p core m o rd address (Some bytes) = m

keeps-operate : (l : Layout) (p : Mapping) (core : Core) → MapsAlike l p core.memory → (rd : ℕ) (o : Option Operation) (x y : ℕ) → Keeps l p core (operate core rd o x y)
keeps-operate l p core m rd None x y = tt
keeps-operate l p core m rd (Some o) x y = m

keeps-prints : (l : Layout) (p : Mapping) (core : Core) → MapsAlike l p core.memory → (fd address len : ℕ) (s : Option (List ℕ)) → Keeps l p core (prints core fd address len s)
keeps-prints l p core m fd address len None = m
keeps-prints l p core m fd address len (Some bytes) = m

second : (a b : Bool) → (a && b) ≡ true → b ≡ true
second true b e = e
second false b e = absurd (cc)

keeps-read : (l : Layout) (p : Mapping) (core : Core) → MapsAlike l p core.memory → (fd address len : ℕ) → Keeps l p core (read_call core fd address len)
keeps-read l p core m fd address len =
    choose l p core (not (fd == 0)) (goes_with core bad_descriptor) _ m
    (choose l p core (len == 0) (goes_with core 0) _ m
    (choose-if l p core (is_lawful core.memory address len true) (Reads address len) (goes_with core bad_span) (λ e. second (nat_le (address + len) (2 ^ 32)) (can_write core.memory address len) e) m))

keeps-write : (l : Layout) (p : Mapping) (core : Core) → MapsAlike l p core.memory → (fd address len : ℕ) → Keeps l p core (write_call core fd address len)
keeps-write l p core m fd address len =
    choose l p core (not (is_printed fd)) (goes_with core bad_descriptor) _ m
    (choose l p core (len == 0) (goes_with core 0) _ m
    (choose l p core (is_lawful core.memory address len false) (prints core fd address len (span core.memory.bytes address len)) (goes_with core bad_span) (keeps-prints l p core m fd address len (span core.memory.bytes address len)) m))

keeps-ecall : (l : Layout) (p : Mapping) (core : Core) → MapsAlike l p core.memory → (a7 : ℕ) → Keeps l p core (ecall core a7)
keeps-ecall l p core m a7 =
    choose l p core (is_exit a7) (Exits (register core 10 % 256) (exited core (register core 10 % 256))) _ m
    (choose l p core (is_read a7) (read_call core (register core 10) (register core 11) (register core 12)) _ (keeps-read l p core m (register core 10) (register core 11) (register core 12))
    (choose l p core (is_write a7) (write_call core (register core 10) (register core 11) (register core 12)) (goes_with core no_call) (keeps-write l p core m (register core 10) (register core 11) (register core 12)) m))

keeps-system : (l : Layout) (p : Mapping) (core : Core) → MapsAlike l p core.memory → (o : Op) → Keeps l p core (system core o)
keeps-system l p core m op.Ecall = keeps-ecall l p core m (register core 17)
keeps-system l p core m op.Ebreak = tt
keeps-system l p core m op.Fence = m
keeps-system l p core m op.FenceI = m
keeps-system l p core m o = tt

four-bytes : (x : ℕ) → All (λ b. b < 256) (byte 0 x ∷ byte 1 x ∷ byte 2 x ∷ byte 3 x ∷ [])
four-bytes x zero d h = omega arith
four-bytes x (suc zero) d h = omega arith
four-bytes x (suc (suc zero)) d h = omega arith
four-bytes x (suc (suc (suc zero))) d h = omega arith
four-bytes x (suc (suc (suc (suc k)))) d h = absurd (omega arith)

-- a store that is allowed keeps what is mapped, whatever its width
keeps-stored : (l : Layout) (p : Mapping) (core : Core) → MapsAlike l p core.memory → (o : Op) (stored address : ℕ) → can_write core.memory address (width_of o) ≡ true → MapsAlike l p (with_bytes core.memory address (bytes_from (width_of o) stored))
keeps-stored l p core m o stored address can =
    let fewer : length (bytes_from (width_of o) stored) ≤ width_of o = length-take_le (width_of o) (byte 0 stored ∷ byte 1 stored ∷ byte 2 stored ∷ byte 3 stored ∷ []) in
    maps-written l p core.memory address (bytes_from (width_of o) stored) m
    (from_each core.memory.writable address (length (bytes_from (width_of o) stored)) (λ x low high. at_each core.memory.writable address (width_of o) x can low (omega (arith, high, fewer))))
    (all-take (λ b. b < 256) (width_of o) (byte 0 stored ∷ byte 1 stored ∷ byte 2 stored ∷ byte 3 stored ∷ []) (four-bytes stored))

keeps-executed : (l : Layout) (p : Mapping) (core : Core) → MapsAlike l p core.memory → (i : Instr) → Keeps l p core (executed core i)
keeps-executed l p core m (instr.Alu o rd rs1 rs2) = keeps-operate l p core m rd (operation_of o) (register core rs1) (register core rs2)
keeps-executed l p core m (instr.AluImm o rd rs1 imm) = keeps-operate l p core m rd (operation_of o) (register core rs1) (imm_word imm)
keeps-executed l p core m (instr.Lui rd top) = m
keeps-executed l p core m (instr.Auipc rd top) = m
keeps-executed l p core m (instr.Jal rd imm) = keeps-jumped l p core (record core { regs = with_register core.regs rd (after core.pc); calls = after_jal rd (after core.pc) core.calls }) ((core.pc + imm_word imm) % 2 ^ 32) m
keeps-executed l p core m (instr.Jalr rd rs1 imm) = keeps-jumped l p core (record core { regs = with_register core.regs rd (after core.pc); calls = after_jalr rd rs1 (after core.pc) core.calls }) (alu Add (register core rs1) (imm_word imm) / 2 * 2) m
keeps-executed l p core m (instr.Branch o rs1 rs2 imm) = choose l p core (holds o (register core rs1) (register core rs2)) (jumped core ((core.pc + imm_word imm) % 2 ^ 32)) (Goes (passed core)) (keeps-jumped l p core core ((core.pc + imm_word imm) % 2 ^ 32) m) m
keeps-executed l p core m (instr.Load o rd rs1 imm) =
    let address : ℕ = alu Add (register core rs1) (imm_word imm) in
    choose l p core (not (address % width_of o == 0)) (Faults fault.LoadAlign address) (loaded_from core o rd address (span core.memory.bytes address (width_of o))) tt (keeps-loaded l p core m o rd address (span core.memory.bytes address (width_of o)))
keeps-executed l p core m (instr.Store o rs1 rs2 imm) =
    let address : ℕ = alu Add (register core rs1) (imm_word imm) in
    choose l p core (not (address % width_of o == 0)) (Faults fault.StoreAlign address) _ tt
    (choose-if l p core (can_write core.memory address (width_of o)) (Goes (record (passed core) { memory = with_bytes core.memory address (bytes_from (width_of o) (register core rs2)) })) (Faults fault.Store address)
    (λ e. keeps-stored l p core m o (register core rs2) address e) tt)
keeps-executed l p core m (instr.System o) = keeps-system l p core m o

keeps-decoded : (l : Layout) (p : Mapping) (core : Core) → MapsAlike l p core.memory → (i : Option Instr) → Keeps l p core (decoded core i)
keeps-decoded l p core m None = tt
keeps-decoded l p core m (Some i) = keeps-executed l p core m i

keeps-fetched : (l : Layout) (p : Mapping) (core : Core) → MapsAlike l p core.memory → (s : Option (List ℕ)) → Keeps l p core (fetched core s)
keeps-fetched l p core m None = tt
keeps-fetched l p core m (Some word) = keeps-decoded l p core m (row (from_le_bytes w32 word))

keeps-of : (l : Layout) (p : Mapping) (core : Core) → MapsAlike l p core.memory → (e : Option Ended) → Keeps l p core (next_of core e)
keeps-of l p core m None = keeps-fetched l p core m (span (code_at core.memory) core.pc 4)
keeps-of l p core m (Some e) = tt

-- ---- heap calls

-- what the heap's laws say of its calls
pub record HeapLaws : Type 0 where
  pub begins : BeginsLawful
  pub malloc_lawful : MallocIsLawful
  pub calloc_lawful : CallocIsLawful
  pub memalign_lawful : MemalignIsLawful
  pub free_lawful : FreeIsLawful
  pub realloc_lawful : ReallocIsLawful
  pub malloc_mapped : MallocKeepsMapped
  pub calloc_mapped : CallocKeepsMapped
  pub memalign_mapped : MemalignKeepsMapped
  pub free_mapped : FreeKeepsMapped
  pub realloc_mapped : ReallocKeepsMapped

-- the memory is mapped as a program and a lawful history have it
record KeepsMaps (p : Mapping) (s : HeapState) : Type 0 where
  lawful : IsLawful s.history
  maps : MapsAlike (layout_of s.history) p s.memory

region-true : (x : ℕ) → heap_from ≤ x → x < 2 ^ 31 → in_region x ≡ true
region-true x h k = grind (arith, nat_tests)

keeps-call : (p : Mapping) (s r : HeapState) → IsLawful r.history → ((other : Memory) → MapsMiniheaps other s → MapsMiniheaps other r) → KeepsMaps p s → KeepsMaps p r
keeps-call p s r lawful keeps k =
    let old = k.maps in
    let new : MapsMiniheaps s.memory r =
    keeps s.memory (record { mapped = λ x e. refl; writable = λ x e. refl; runs = λ x e. refl; heap_mapped = old.heap_mapped; heap_writable = old.heap_writable; heap_runs = old.heap_runs; bounded = old.bounded }) in
    record {
      lawful = lawful;
      maps = record {
        mapped = λ x e. new.mapped x e ∙ old.mapped x e;
        writable = λ x e. new.writable x e ∙ old.writable x e;
        runs = λ x e. new.runs x e ∙ old.runs x e;
        heap_mapped = new.heap_mapped;
        heap_writable = new.heap_writable;
        heap_runs = new.heap_runs;
        bounded = new.bounded;
      };
    }

malloc-keeps : HeapLaws → (p : Mapping) (rules : Rules) (size site : ℕ) (s : HeapState) → KeepsMaps p s → KeepsMaps p (malloc rules size site s).state
malloc-keeps laws p rules size site s k = keeps-call p s (malloc rules size site s).state (laws.malloc_lawful rules size site s k.lawful) (λ other m. laws.malloc_mapped rules size site other s k.lawful m) k

calloc-keeps : HeapLaws → (p : Mapping) (rules : Rules) (count each site : ℕ) (s : HeapState) → KeepsMaps p s → KeepsMaps p (calloc rules count each site s).state
calloc-keeps laws p rules count each site s k = keeps-call p s (calloc rules count each site s).state (laws.calloc_lawful rules count each site s k.lawful) (λ other m. laws.calloc_mapped rules count each site other s k.lawful m) k

memalign-keeps : HeapLaws → (p : Mapping) (rules : Rules) (align size site : ℕ) (s : HeapState) → KeepsMaps p s → KeepsMaps p (memalign rules align size site s).state
memalign-keeps laws p rules align size site s k = keeps-call p s (memalign rules align size site s).state (laws.memalign_lawful rules align size site s k.lawful) (λ other m. laws.memalign_mapped rules align size site other s k.lawful m) k

free-keeps : HeapLaws → (p : Mapping) (rules : Rules) (address site : ℕ) (s : HeapState) → KeepsMaps p s → KeepsMaps p (free rules address site s)
free-keeps laws p rules address site s k = keeps-call p s (free rules address site s) (laws.free_lawful rules address site s k.lawful) (λ other m. laws.free_mapped rules address site other s k.lawful m) k

realloc-keeps : HeapLaws → (p : Mapping) (rules : Rules) (old size site : ℕ) (s : HeapState) → KeepsMaps p s → KeepsMaps p (realloc rules old size site s).state
realloc-keeps laws p rules old size site s k = keeps-call p s (realloc rules old size site s).state (laws.realloc_lawful rules old size site s k.lawful) (λ other m. laws.realloc_mapped rules old size site other s k.lawful m) k

-- ---- a guest with its heap

abbrev GuestKeeps : Mapping → Guest → GuestNext → Type 0
GuestKeeps p g (Carries n) = Keeps (layout_of g.history) p g.core n
GuestKeeps p g (Returns to) = KeepsMaps p (heap_of to)
GuestKeeps p g (Lacks used wanted to) = KeepsMaps p (heap_of to)

keeps-answered : (p : Mapping) (g : Guest) (back : ℕ) (s : HeapState) (answer : Result ℕ HeapRefusal) → KeepsMaps p s → GuestKeeps p g (answered g back s answer)
keeps-answered p g back s (Ok address) k = k
keeps-answered p g back s (Err (Room used wanted)) k = k
keeps-answered p g back s (Err NoMemory) k = k

keeps-answers : (p : Mapping) (g : Guest) (back : ℕ) (outcome : Outcome) → KeepsMaps p outcome.state → GuestKeeps p g (answers g back outcome)
keeps-answers p g back outcome k = keeps-answered p g back outcome.state outcome.answer k

keeps-called : HeapLaws → (p : Mapping) (g : Guest) → KeepsMaps p (heap_of g) → (back : ℕ) (function : HeapCall) → GuestKeeps p g (called g back function)
keeps-called laws p g k back Malloc = keeps-answers p g back (malloc g.rules (register g.core 10) (site_of g.core.calls) (heap_of g)) (malloc-keeps laws p g.rules (register g.core 10) (site_of g.core.calls) (heap_of g) k)
keeps-called laws p g k back MallocR = keeps-answers p g back (malloc g.rules (register g.core 11) (site_of g.core.calls) (heap_of g)) (malloc-keeps laws p g.rules (register g.core 11) (site_of g.core.calls) (heap_of g) k)
keeps-called laws p g k back Free = free-keeps laws p g.rules (register g.core 10) (site_of g.core.calls) (heap_of g) k
keeps-called laws p g k back FreeR = free-keeps laws p g.rules (register g.core 11) (site_of g.core.calls) (heap_of g) k
keeps-called laws p g k back Calloc = keeps-answers p g back (calloc g.rules (register g.core 10) (register g.core 11) (site_of g.core.calls) (heap_of g)) (calloc-keeps laws p g.rules (register g.core 10) (register g.core 11) (site_of g.core.calls) (heap_of g) k)
keeps-called laws p g k back CallocR = keeps-answers p g back (calloc g.rules (register g.core 11) (register g.core 12) (site_of g.core.calls) (heap_of g)) (calloc-keeps laws p g.rules (register g.core 11) (register g.core 12) (site_of g.core.calls) (heap_of g) k)
keeps-called laws p g k back Realloc = keeps-answers p g back (realloc g.rules (register g.core 10) (register g.core 11) (site_of g.core.calls) (heap_of g)) (realloc-keeps laws p g.rules (register g.core 10) (register g.core 11) (site_of g.core.calls) (heap_of g) k)
keeps-called laws p g k back ReallocR = keeps-answers p g back (realloc g.rules (register g.core 11) (register g.core 12) (site_of g.core.calls) (heap_of g)) (realloc-keeps laws p g.rules (register g.core 11) (register g.core 12) (site_of g.core.calls) (heap_of g) k)
keeps-called laws p g k back Memalign = keeps-answers p g back (memalign g.rules (register g.core 10) (register g.core 11) (site_of g.core.calls) (heap_of g)) (memalign-keeps laws p g.rules (register g.core 10) (register g.core 11) (site_of g.core.calls) (heap_of g) k)
keeps-called laws p g k back AlignedAlloc = keeps-answers p g back (memalign g.rules (register g.core 10) (register g.core 11) (site_of g.core.calls) (heap_of g)) (memalign-keeps laws p g.rules (register g.core 10) (register g.core 11) (site_of g.core.calls) (heap_of g) k)
keeps-called laws p g k back MemalignR = keeps-answers p g back (memalign g.rules (register g.core 11) (register g.core 12) (site_of g.core.calls) (heap_of g)) (memalign-keeps laws p g.rules (register g.core 11) (register g.core 12) (site_of g.core.calls) (heap_of g) k)

keeps-from : HeapLaws → (p : Mapping) (g : Guest) → KeepsMaps p (heap_of g) → (back : ℕ) (function : HeapCall) → GuestKeeps p g (call_from g back function)
keeps-from laws p g k back function = go (back % 4 == 0)
  where
    go : (b : Bool) → GuestKeeps p g (cond b (called g back function) (Carries (Faults fault.Jump back)))
    go true = keeps-called laws p g k back function
    go false = tt

keeps-at : HeapLaws → (p : Mapping) (g : Guest) → KeepsMaps p (heap_of g) → (function : Option HeapCall) → GuestKeeps p g (guest_next_at g function)
keeps-at laws p g k (Some function) = keeps-from laws p g k (register g.core 1 - register g.core 1 % 2) function
keeps-at laws p g k None = keeps-of (layout_of g.history) p g.core k.maps g.core.ended

keeps-guest : HeapLaws → (p : Mapping) (g : Guest) → KeepsMaps p (heap_of g) → (e : Option Ended) → GuestKeeps p g (guest_next_of g e)
keeps-guest laws p g k (Some e) = tt
keeps-guest laws p g k None = keeps-at laws p g k (call_at g.names g.core.pc)

-- ---- runs

carries-maps : (p : Mapping) (input : List ℕ) → AllBytes input → (f : Flat) → KeepsMaps p (heap_of f.guest) → (n : Next) → Keeps (layout_of f.guest.history) p f.guest.core n → KeepsMaps p (heap_of (carried input f n).guest)
carries-maps p input all f k (Goes core) m = record { lawful = k.lawful; maps = m }
carries-maps p input all f k (Faults kind address) m = record { lawful = k.lawful; maps = k.maps }
carries-maps p input all f k (Prints fd address len bytes core) m = record { lawful = k.lawful; maps = m }
carries-maps p input all f k (Exits code core) m = record { lawful = k.lawful; maps = m }
carries-maps p input all f k (Stays ended) m = k
carries-maps p input all f k (Reads address len) can =
    let bytes : List ℕ = taken input f.place len in
    let fewer : length bytes ≤ len = length-take_le len (drop f.place input) in
    let small : All (λ b. b < 256) bytes = all-take (λ b. b < 256) len (drop f.place input) (all-drop (λ b. b < 256) f.place input all) in
    record {
      lawful = k.lawful;
      maps = maps-written (layout_of f.guest.history) p f.guest.core.memory address bytes k.maps
          (from_each f.guest.core.memory.writable address (length bytes) (λ x low high. at_each f.guest.core.memory.writable address len x can low (omega (arith, high, fewer)))) small;
    }

step-maps : (p : Mapping) (input : List ℕ) → AllBytes input → (f : Flat) → KeepsMaps p (heap_of f.guest) → (n : GuestNext) → GuestKeeps p f.guest n → KeepsMaps p (heap_of (after_step input f n).guest)
step-maps p input all f k (Carries n) m = carries-maps p input all f k n m
step-maps p input all f k (Returns g) m = m
step-maps p input all f k (Lacks used wanted g) m = m

-- what a heap asks of the memory, but for the pages that are taken
mapped-home : (p : Mapping) (g : Guest) → KeepsMaps p (heap_of g) → IsMapped p g
mapped-home p g k = record {
  lawful = k.lawful;
  maps = k.maps;
  home = record {
    mapped = λ a lo hi. k.maps.heap_mapped a (region-true a lo hi);
    writable = λ a lo hi. k.maps.heap_writable a (region-true a lo (omega (arith, hi, k.lawful.in_order.in_limit))) ∙ lt-ltb a (end_of (slots_of g.history)) hi;
    pages = λ a t e h. refl;
  };
}

pub steps_stay_mapped : HeapLaws → StepsStayMapped
steps_stay_mapped laws p input all f m =
    let k : KeepsMaps p (heap_of f.guest) = record { lawful = m.lawful; maps = m.maps } in
    mapped-home p (flat_step input f).guest (step-maps p input all f k (guest_next f.guest) (keeps-guest laws p f.guest k f.guest.core.ended))

pub runs_stay_mapped : HeapLaws → RunsStayMapped
unfolding flat_steps
runs_stay_mapped laws program lawful args bytes settings input all zero =
    mapped-home (inf_mapping program args) (guest_start program args settings) (record { lawful = laws.begins settings.seed; maps = maps_alike settings.seed program lawful args bytes })
runs_stay_mapped laws program lawful args bytes settings input all (suc n) =
    steps_stay_mapped laws (inf_mapping program args) input all (flat_run program args settings input n) (runs_stay_mapped laws program lawful args bytes settings input all n)
