-- What a step of the infinite-heap machine records has the clock of the step, and an instruction keeps the objects.
use Rattle.std.proofs.Common.{◌≡◌, ℕ, ◌+◌, ◌-◌, ◌*◌, ◌%◌, ◌^◌, refl, Bool, true, false, cond, not, ◌||◌, nat_eq, nat_lt, List, [], ◌∷◌, Option, None, Some}
use Rattle.std.specs.Prelude.{⊤}
use Rattle.infinite_heap.specs.declared.access.Record.{Record}
use Rattle.infinite_heap.specs.declared.instr.Instr.{Instr}
use Rattle.infinite_heap.specs.declared.instr.Instr.TheVariants as instr
use Rattle.infinite_heap.specs.declared.instr.Op.{Op}
use Rattle.infinite_heap.specs.declared.instr.Op.TheVariants as op
use Rattle.infinite_heap.specs.declared.instr.Operation.{Operation}
use Rattle.infinite_heap.specs.declared.instr.Operation.TheVariants.{Add}
use Rattle.infinite_heap.specs.declared.program.HeapCall.{HeapCall}
use Rattle.infinite_heap.specs.declared.program.HeapCall.TheVariants.{Malloc, Free, Calloc, Realloc, Memalign, AlignedAlloc, MallocR, FreeR, CallocR, ReallocR, MemalignR}
use Rattle.infinite_heap.specs.declared.value.Value.{Value}
use Rattle.infinite_heap.specs.declared.value.Value.TheVariants.{Num, Ptr, Mix, Low}
use Rattle.infinite_heap.specs.Calls.{after_jal, after_jalr}
use Rattle.infinite_heap.specs.Equality.{Decision, Look, touches}
use Rattle.infinite_heap.specs.InfiniteHeap.{inf_malloc, inf_calloc, inf_memalign_of, inf_memalign, inf_free_object, inf_free, inf_resize, inf_realloc_object, inf_realloc, inf_called, inf_call_from}
use Rattle.infinite_heap.specs.InfiniteState.{InfState, InfStep, Goes, Reads, Prints, Exits, Faults, Blurs, records_of, clock_of, set_reg, after}
use Rattle.infinite_heap.specs.InfiniteStep.{imm_word, inf_jump, decide, inf_branch, inf_load, inf_store, inf_jalr, inf_operate, inf_system, inf_do, inf_decoded, inf_word, inf_fetch, inf_step_at}
use Rattle.infinite_heap.specs.InfiniteSystem.{is_read, is_write, is_exit, is_printed, all_in, avoids_heap, is_span, inf_read_at, inf_read_from, inf_prints, inf_write_at, inf_write_to, inf_served, inf_ecall}
use Rattle.infinite_heap.specs.Lift.{lift}
use Rattle.infinite_heap.specs.Mapped.{Mapping}
use Rattle.infinite_heap.specs.Memory.{get_all, width_of, value_from}
use Rattle.infinite_heap.specs.Objects.{Freed, object_at, alignment_in, size_in}
use Rattle.infinite_heap.specs.Operations.{operation_of}
use Rattle.infinite_heap.specs.Region.{in_region, most_allocated, is_valid_alignment}
use Rattle.infinite_heap.specs.Row.{row}

-- the records are all of this clock
abbrev pub AreNow : ℕ → List Record → Type 0
AreNow clock [] = ⊤
AreNow clock (r ∷ records) = (r.access.clock ≡ clock) × AreNow clock records

-- the next state has the same objects, and what the step records is of its clock
abbrev pub IsSteady : InfState → InfStep → Type 0
IsSteady s (Goes s' r) = (s'.objects ≡ s.objects) × AreNow (clock_of s) r
IsSteady s (Reads len s' r) = (s'.objects ≡ s.objects) × AreNow (clock_of s) r
IsSteady s (Prints fd bytes s' r) = (s'.objects ≡ s.objects) × AreNow (clock_of s) r
IsSteady s (Exits code s') = s'.objects ≡ s.objects
IsSteady s (Faults k r) = AreNow (clock_of s) r
IsSteady s (Blurs w r) = AreNow (clock_of s) r

pick : (s : InfState) (b : Bool) (i j : InfStep) → IsSteady s i → IsSteady s j → IsSteady s (cond b i j)
pick s true i j h k = h
pick s false i j h k = k

-- ---- instructions

touched : (clock pc : ℕ) (looks : List Look) → AreNow clock (touches clock pc looks)
touched clock pc [] = tt
touched clock pc (k ∷ ks) = (refl, touched clock pc ks)

jumps : (s s' : InfState) → s'.objects ≡ s.objects → (target : ℕ) (r : List Record) → AreNow (clock_of s) r → IsSteady s (inf_jump s' target r)
jumps s s' e target r h = pick s (nat_eq (target % 4) 0) _ _ (e, h) h

branches : (s : InfState) (offset : ℕ) (o : Option Decision) → IsSteady s (inf_branch s offset o)
branches s offset None = tt
branches s offset (Some d) =
    let h = touched (clock_of s) s.pc d.looks in
    pick s d.answer _ _ (jumps s s refl ((s.pc + offset) % 2 ^ 32) (touches (clock_of s) s.pc d.looks) h) (refl, h)

loads : (p : Mapping) (s : InfState) (o : Op) (rd : ℕ) (v : Value) → IsSteady s (inf_load p s o rd v)
loads p s o rd (Num n) = pick s (in_region n) _ _ tt (pick s (not (nat_eq (n % width_of o) 0)) _ _ tt (pick s (all_in p.mapped n (width_of o)) _ _ (refl, tt) tt))
loads p s o rd (Ptr i d) = pick s (not (nat_eq (d % width_of o) 0)) _ _ tt (refl, (refl, tt))
loads p s o rd (Mix a b c d) = tt
loads p s o rd (Low b) = tt

stores : (p : Mapping) (s : InfState) (o : Op) (x v : Value) → IsSteady s (inf_store p s o x v)
stores p s o x (Num n) = pick s (in_region n) _ _ tt (pick s (not (nat_eq (n % width_of o) 0)) _ _ tt (pick s (all_in p.writable n (width_of o)) _ _ (refl, tt) tt))
stores p s o x (Ptr i d) = pick s (not (nat_eq (d % width_of o) 0)) _ _ tt (refl, (refl, tt))
stores p s o x (Mix a b c d) = tt
stores p s o x (Low b) = tt

jalrs : (s : InfState) (rd rs1 : ℕ) (v : Value) → IsSteady s (inf_jalr s rd rs1 v)
jalrs s rd rs1 (Num n) = jumps s (record s { regs = set_reg s.regs rd (Num (after s.pc)); calls = after_jalr rd rs1 (after s.pc) s.calls }) refl (n - n % 2) [] tt
jalrs s rd rs1 (Ptr o d) = tt
jalrs s rd rs1 (Mix a b c d) = tt
jalrs s rd rs1 (Low b) = tt

operates : (s : InfState) (rd : ℕ) (o : Option Operation) (x y : Value) → IsSteady s (inf_operate s rd o x y)
operates s rd (Some o) x y = (refl, tt)
operates s rd None x y = tt

-- ---- system calls

reads-at : (p : Mapping) (input : List ℕ) (s : InfState) (v : Value) (len : ℕ) → IsSteady s (inf_read_at p input s v len)
reads-at p input s (Num n) len = pick s (not (avoids_heap n len)) _ _ tt (pick s (is_span p.writable n len) _ _ (refl, tt) (refl, tt))
reads-at p input s (Ptr o d) len = (refl, (refl, tt))
reads-at p input s (Mix a b c d) len = tt
reads-at p input s (Low b) len = tt

reads-from : (p : Mapping) (input : List ℕ) (s : InfState) (fd : ℕ) (v u : Value) → IsSteady s (inf_read_from p input s fd v u)
reads-from p input s fd v (Num len) = pick s (not (nat_eq fd 0)) _ _ (refl, tt) (pick s (nat_eq len 0) _ _ (refl, tt) (reads-at p input s v len))
reads-from p input s fd v (Ptr o d) = pick s (nat_eq fd 0) _ _ tt (refl, tt)
reads-from p input s fd v (Mix a b c d) = pick s (nat_eq fd 0) _ _ tt (refl, tt)
reads-from p input s fd v (Low b) = pick s (nat_eq fd 0) _ _ tt (refl, tt)

prints : (s : InfState) (fd len : ℕ) (o : Option (List ℕ)) (r : List Record) → AreNow (clock_of s) r → IsSteady s (inf_prints s fd len o r)
prints s fd len (Some bytes) r h = (refl, h)
prints s fd len None r h = h

writes-at : (p : Mapping) (s : InfState) (fd : ℕ) (v : Value) (len : ℕ) → IsSteady s (inf_write_at p s fd v len)
writes-at p s fd (Num n) len = pick s (not (avoids_heap n len)) _ _ tt (pick s (is_span p.mapped n len) _ _ (prints s fd len _ [] tt) (refl, tt))
writes-at p s fd (Ptr o d) len = prints s fd len _ _ (refl, tt)
writes-at p s fd (Mix a b c d) len = tt
writes-at p s fd (Low b) len = tt

writes-to : (p : Mapping) (s : InfState) (fd : ℕ) (v u : Value) → IsSteady s (inf_write_to p s fd v u)
writes-to p s fd v (Num len) = pick s (not (is_printed fd)) _ _ (refl, tt) (pick s (nat_eq len 0) _ _ (refl, tt) (writes-at p s fd v len))
writes-to p s fd v (Ptr o d) = pick s (is_printed fd) _ _ tt (refl, tt)
writes-to p s fd v (Mix a b c d) = pick s (is_printed fd) _ _ tt (refl, tt)
writes-to p s fd v (Low b) = pick s (is_printed fd) _ _ tt (refl, tt)

serves : (p : Mapping) (input : List ℕ) (s : InfState) (a7 : ℕ) (v : Value) → IsSteady s (inf_served p input s a7 v)
serves p input s a7 (Num a0) = pick s (is_exit a7) _ _ refl (pick s (is_read a7) _ _ (reads-from p input s a0 (s.regs 11) (s.regs 12)) (writes-to p s a0 (s.regs 11) (s.regs 12)))
serves p input s a7 (Ptr o d) = tt
serves p input s a7 (Mix a b c d) = tt
serves p input s a7 (Low b) = tt

ecalls : (p : Mapping) (input : List ℕ) (s : InfState) (v : Value) → IsSteady s (inf_ecall p input s v)
ecalls p input s (Num a7) = pick s (is_exit a7 || (is_read a7 || is_write a7)) _ _ (serves p input s a7 (s.regs 10)) (refl, tt)
ecalls p input s (Ptr o d) = tt
ecalls p input s (Mix a b c d) = tt
ecalls p input s (Low b) = tt

systems : (p : Mapping) (input : List ℕ) (s : InfState) (o : Op) → IsSteady s (inf_system p input s o)
systems p input s op.Ecall = ecalls p input s (s.regs 17)
systems p input s op.Ebreak = tt
systems p input s op.Fence = (refl, tt)
systems p input s op.FenceI = (refl, tt)
systems p input s _ = tt

-- ---- one instruction

does : (p : Mapping) (input : List ℕ) (s : InfState) (i : Instr) → IsSteady s (inf_do p input s i)
does p input s (instr.Alu o rd rs1 rs2) = operates s rd (operation_of o) (s.regs rs1) (s.regs rs2)
does p input s (instr.AluImm o rd rs1 imm) = operates s rd (operation_of o) (s.regs rs1) (Num (imm_word imm))
does p input s (instr.Lui rd top) = (refl, tt)
does p input s (instr.Auipc rd top) = (refl, tt)
does p input s (instr.Jal rd imm) = jumps s (record s { regs = set_reg s.regs rd (Num (after s.pc)); calls = after_jal rd (after s.pc) s.calls }) refl ((s.pc + imm_word imm) % 2 ^ 32) [] tt
does p input s (instr.Jalr rd rs1 imm) = jalrs s rd rs1 (lift (alignment_in s.objects) Add (s.regs rs1) (Num (imm_word imm)))
does p input s (instr.Branch o rs1 rs2 imm) = branches s (imm_word imm) (decide (size_in s.objects) o (s.regs rs1) (s.regs rs2))
does p input s (instr.Load o rd rs1 imm) = loads p s o rd (lift (alignment_in s.objects) Add (s.regs rs1) (Num (imm_word imm)))
does p input s (instr.Store o rs1 rs2 imm) = stores p s o (s.regs rs2) (lift (alignment_in s.objects) Add (s.regs rs1) (Num (imm_word imm)))
does p input s (instr.System o) = systems p input s o

decodes : (p : Mapping) (input : List ℕ) (s : InfState) (o : Option Instr) → IsSteady s (inf_decoded p input s o)
decodes p input s None = tt
decodes p input s (Some i) = does p input s i

words : (p : Mapping) (input : List ℕ) (s : InfState) (v : Value) → IsSteady s (inf_word p input s v)
words p input s (Num w) = decodes p input s (row w)
words p input s (Ptr o d) = tt
words p input s (Mix a b c d) = tt
words p input s (Low b) = tt

pub instructions_are_steady : (p : Mapping) (input : List ℕ) (s : InfState) → IsSteady s (inf_fetch p input s)
instructions_are_steady p input s = pick s (all_in p.runs s.pc 4) _ _ (words p input s (value_from false (get_all s.flat s.pc 4))) tt

-- ---- heap calls

abbrev IsTimed : InfState → InfStep → Type 0
IsTimed s i = AreNow (clock_of s) (records_of i)

choose : (s : InfState) (b : Bool) (i j : InfStep) → IsTimed s i → IsTimed s j → IsTimed s (cond b i j)
choose s true i j h k = h
choose s false i j h k = k

malloc-timed : (s : InfState) (zeroed : Bool) (back : ℕ) (v : Value) → IsTimed s (inf_malloc s zeroed back v)
malloc-timed s zeroed back (Num size) = choose s (nat_lt most_allocated size) _ _ tt tt
malloc-timed s zeroed back (Ptr o d) = tt
malloc-timed s zeroed back (Mix a b c d) = tt
malloc-timed s zeroed back (Low b) = tt

calloc-timed : (s : InfState) (back : ℕ) (v u : Value) → IsTimed s (inf_calloc s back v u)
calloc-timed s back (Num count) (Num each) = choose s (nat_lt most_allocated (count * each)) _ _ tt tt
calloc-timed s back (Num count) (Ptr o d) = tt
calloc-timed s back (Num count) (Mix a b c d) = tt
calloc-timed s back (Num count) (Low b) = tt
calloc-timed s back (Ptr o d) u = tt
calloc-timed s back (Mix a b c d) u = tt
calloc-timed s back (Low b) u = tt

aligned-timed : (s : InfState) (zeroed : Bool) (back align : ℕ) (v : Value) → IsTimed s (inf_memalign_of s zeroed back align v)
aligned-timed s zeroed back align (Num size) = choose s (is_valid_alignment align) _ _ (choose s (nat_lt most_allocated size) _ _ tt tt) tt
aligned-timed s zeroed back align (Ptr o d) = tt
aligned-timed s zeroed back align (Mix a b c d) = tt
aligned-timed s zeroed back align (Low b) = tt

memalign-timed : (s : InfState) (zeroed : Bool) (back : ℕ) (v u : Value) → IsTimed s (inf_memalign s zeroed back v u)
memalign-timed s zeroed back (Num align) u = aligned-timed s zeroed back align u
memalign-timed s zeroed back (Ptr o d) u = tt
memalign-timed s zeroed back (Mix a b c d) u = tt
memalign-timed s zeroed back (Low b) u = tt

again-timed : (s : InfState) (back o : ℕ) (f : Option Freed) → IsTimed s (inf_free_object s back o f)
again-timed s back o None = tt
again-timed s back o (Some freed) = (refl, tt)

free-timed : (s : InfState) (back : ℕ) (v : Value) → IsTimed s (inf_free s back v)
free-timed s back (Num n) = choose s (in_region n) _ _ tt tt
free-timed s back (Ptr o d) = choose s (nat_eq d 0) _ _ (again-timed s back o (object_at s.objects o).freed) (refl, tt)
free-timed s back (Mix a b c d) = tt
free-timed s back (Low b) = tt

resize-timed : (s : InfState) (zeroed : Bool) (back o : ℕ) (v : Value) → IsTimed s (inf_resize s zeroed back o v)
resize-timed s zeroed back o (Num size) = choose s (nat_lt most_allocated size) _ _ tt tt
resize-timed s zeroed back o (Ptr i d) = tt
resize-timed s zeroed back o (Mix a b c d) = tt
resize-timed s zeroed back o (Low b) = tt

moved-timed : (s : InfState) (zeroed : Bool) (back o : ℕ) (v : Value) (f : Option Freed) → IsTimed s (inf_realloc_object s zeroed back o v f)
moved-timed s zeroed back o v None = resize-timed s zeroed back o v
moved-timed s zeroed back o v (Some freed) = tt

realloc-timed : (s : InfState) (zeroed : Bool) (back : ℕ) (v u : Value) → IsTimed s (inf_realloc s zeroed back v u)
realloc-timed s zeroed back (Num n) u = choose s (nat_eq n 0) _ _ (malloc-timed s zeroed back u) tt
realloc-timed s zeroed back (Ptr o d) u = choose s (nat_eq d 0) _ _ (moved-timed s zeroed back o u (object_at s.objects o).freed) tt
realloc-timed s zeroed back (Mix a b c d) u = tt
realloc-timed s zeroed back (Low b) u = tt

called-timed : (s : InfState) (zeroed : Bool) (back : ℕ) (f : HeapCall) → IsTimed s (inf_called s zeroed back f)
called-timed s zeroed back Malloc = malloc-timed s zeroed back (s.regs 10)
called-timed s zeroed back MallocR = malloc-timed s zeroed back (s.regs 11)
called-timed s zeroed back Free = free-timed s back (s.regs 10)
called-timed s zeroed back FreeR = free-timed s back (s.regs 11)
called-timed s zeroed back Calloc = calloc-timed s back (s.regs 10) (s.regs 11)
called-timed s zeroed back CallocR = calloc-timed s back (s.regs 11) (s.regs 12)
called-timed s zeroed back Realloc = realloc-timed s zeroed back (s.regs 10) (s.regs 11)
called-timed s zeroed back ReallocR = realloc-timed s zeroed back (s.regs 11) (s.regs 12)
called-timed s zeroed back Memalign = memalign-timed s zeroed back (s.regs 10) (s.regs 11)
called-timed s zeroed back AlignedAlloc = memalign-timed s zeroed back (s.regs 10) (s.regs 11)
called-timed s zeroed back MemalignR = memalign-timed s zeroed back (s.regs 11) (s.regs 12)

call-timed : (s : InfState) (zeroed : Bool) (f : HeapCall) (ra : Value) → IsTimed s (inf_call_from s zeroed f ra)
call-timed s zeroed f (Num ra) = choose s (nat_eq ((ra - ra % 2) % 4) 0) _ _ (called-timed s zeroed (ra - ra % 2) f) tt
call-timed s zeroed f (Ptr o d) = tt
call-timed s zeroed f (Mix a b c d) = tt
call-timed s zeroed f (Low b) = tt

-- ---- one step

recorded : (s : InfState) (i : InfStep) → IsSteady s i → IsTimed s i
recorded s (Goes s' r) h = h.1
recorded s (Reads len s' r) h = h.1
recorded s (Prints fd bytes s' r) h = h.1
recorded s (Exits code s') h = tt
recorded s (Faults k r) h = h
recorded s (Blurs w r) h = h

pub records_are_timed : (p : Mapping) (zeroed : Bool) (input : List ℕ) (s : InfState) (f : Option HeapCall) → AreNow (clock_of s) (records_of (inf_step_at p zeroed input s f))
records_are_timed p zeroed input s (Some f) = call-timed s zeroed f (s.regs 1)
records_are_timed p zeroed input s None = recorded s (inf_fetch p input s) (instructions_are_steady p input s)
