-- An instruction writes to objects that there are.
use Rattle.std.proofs.Common.{◌≡◌, ℕ, ◌+◌, ◌-◌, ◌%◌, ◌^◌, ◌<◌, refl, subst, Bool, true, false, cond, not, ◌||◌, nat_eq, arith, List, [], ◌∷◌, Option, None, Some}
use Rattle.std.specs.Prelude.{⊤, IfSome, ℤ, pos, negsuc, ◌<ℤ◌}
use Rattle.std.proofs.lemmas.Int.{ints}
use Rattle.std.proofs.lemmas.List.Elements.{All-cons}
use Rattle.infinite_heap.specs.declared.access.Record.{Record}
use Rattle.infinite_heap.specs.declared.instr.Instr.{Instr}
use Rattle.infinite_heap.specs.declared.instr.Instr.TheVariants as instr
use Rattle.infinite_heap.specs.declared.instr.Op.{Op}
use Rattle.infinite_heap.specs.declared.instr.Op.TheVariants as op
use Rattle.infinite_heap.specs.declared.instr.Operation.{Operation}
use Rattle.infinite_heap.specs.declared.instr.Operation.TheVariants.{Add}
use Rattle.infinite_heap.specs.declared.value.Cell.{Cell}
use Rattle.infinite_heap.specs.declared.value.Value.{Value}
use Rattle.infinite_heap.specs.declared.value.Value.TheVariants.{Num, Ptr, Mix, Low}
use Rattle.infinite_heap.specs.Alu.{alu}
use Rattle.infinite_heap.specs.Calls.{after_jal, after_jalr}
use Rattle.infinite_heap.specs.Equality.{Decision, touches}
use Rattle.infinite_heap.specs.InfiniteState.{InfState, InfStep, Goes, Reads, Prints, Exits, Faults, Blurs, clock_of, set_reg, after}
use Rattle.infinite_heap.specs.InfiniteStep.{imm_word, inf_jump, decide, inf_branch, inf_load, inf_store, inf_jalr, inf_operate, inf_system, inf_do, inf_decoded, inf_word, inf_fetch}
use Rattle.infinite_heap.specs.InfiniteSystem.{is_read, is_write, is_exit, is_printed, all_in, avoids_heap, is_span, taken, as_cells, inf_read_at, inf_read_from, inf_prints, inf_write_at, inf_write_to, inf_served, inf_ecall}
use Rattle.infinite_heap.specs.InRange.{IsInRange}
use Rattle.infinite_heap.specs.Layout.{Layout, IsLayout, Stands}
use Rattle.infinite_heap.specs.Lift.{lift}
use Rattle.infinite_heap.specs.Mapped.{Mapping}
use Rattle.infinite_heap.specs.Memory.{Written, next, get_all, write_all, width_of, value_from, cells_from}
use Rattle.infinite_heap.specs.Objects.{alignment_in, size_in}
use Rattle.infinite_heap.specs.Operations.{operation_of}
use Rattle.infinite_heap.specs.Region.{in_region}
use Rattle.infinite_heap.specs.Row.{row}
use Rattle.value_laws.specs.OperationLaws.{LiftIsSound}
use Rattle.rv_decode.specs.Laws.{RowsAreInRange}
use Rattle.rv_machine.specs.Core.{Core, register}
use Rattle.rv_machine.specs.Matches.{StateMatches}
use Rattle.simulation.specs.Agreement.{AreOfObjects}

-- what is written afterwards is of one of n objects where it was before
abbrev pub KeepsWritten : ℕ → InfState → InfStep → Type 0
KeepsWritten n s (Goes s' r) = AreOfObjects n s.written → AreOfObjects n s'.written
KeepsWritten n s (Reads len s' r) = AreOfObjects n s.written → AreOfObjects n s'.written
KeepsWritten n s (Prints fd bytes s' r) = AreOfObjects n s.written → AreOfObjects n s'.written
KeepsWritten n s (Exits code s') = AreOfObjects n s.written → AreOfObjects n s'.written
KeepsWritten n s (Faults k r) = ⊤
KeepsWritten n s (Blurs w r) = ⊤

pick : (n : ℕ) (s : InfState) (b : Bool) (i j : InfStep) → KeepsWritten n s i → KeepsWritten n s j → KeepsWritten n s (cond b i j)
pick n s true i j h k = h
pick n s false i j h k = k

wrote : (n : ℕ) (marks : ℕ → Bool) (ws : List Written) (o d : ℕ) (cs : List Cell) → o < n → AreOfObjects n ws → AreOfObjects n (write_all marks ws o d cs)
wrote n marks ws o d [] less h = h
wrote n marks ws o d (c ∷ cs) less h =
    wrote n marks (record { object = o; offset = d; cell = c; stored = marks d } ∷ ws) o (next d) cs less
    (All-cons (λ (w : Written). w.object < n) (record { object = o; offset = d; cell = c; stored = marks d }) ws less h)

-- ---- instructions

jumps : (n : ℕ) (s s' : InfState) → s'.written ≡ s.written → (target : ℕ) (r : List Record) → KeepsWritten n s (inf_jump s' target r)
jumps n s s' e target r = pick n s (nat_eq (target % 4) 0) _ _ (λ h. subst (AreOfObjects n) (let f : s.written ≡ s'.written = cc in f) h) tt

branches : (n : ℕ) (s : InfState) (offset : ℕ) (o : Option Decision) → KeepsWritten n s (inf_branch s offset o)
branches n s offset None = tt
branches n s offset (Some d) = pick n s d.answer _ _ (jumps n s s refl ((s.pc + offset) % 2 ^ 32) (touches (clock_of s) s.pc d.looks)) (λ h. h)

loads : (n : ℕ) (p : Mapping) (s : InfState) (o : Op) (rd : ℕ) (v : Value) → KeepsWritten n s (inf_load p s o rd v)
loads n p s o rd (Num x) = pick n s (in_region x) _ _ tt (pick n s (not (nat_eq (x % width_of o) 0)) _ _ tt (pick n s (all_in p.mapped x (width_of o)) _ _ (λ h. h) tt))
loads n p s o rd (Ptr i d) = pick n s (not (nat_eq (d % width_of o) 0)) _ _ tt (λ h. h)
loads n p s o rd (Mix a b c d) = tt
loads n p s o rd (Low b) = tt

stores : (l : Layout) (p : Mapping) (s : InfState) (o : Op) (x v : Value) (word : ℕ) → Stands l v word → KeepsWritten l.count s (inf_store p s o x v)
stores l p s o x (Num n) word h = pick l.count s (in_region n) _ _ tt (pick l.count s (not (nat_eq (n % width_of o) 0)) _ _ tt (pick l.count s (all_in p.writable n (width_of o)) _ _ (λ k. k) tt))
stores l p s o x (Ptr i d) word h = pick l.count s (not (nat_eq (d % width_of o) 0)) _ _ tt (λ k. wrote l.count (λ offset. true) s.written i d (cells_from (width_of o) x) h.known k)
stores l p s o x (Mix a b c d) word h = tt
stores l p s o x (Low b) word h = tt

jalrs : (n : ℕ) (s : InfState) (rd rs1 : ℕ) (v : Value) → KeepsWritten n s (inf_jalr s rd rs1 v)
jalrs n s rd rs1 (Num x) = jumps n s (record s { regs = set_reg s.regs rd (Num (after s.pc)); calls = after_jalr rd rs1 (after s.pc) s.calls }) refl (x - x % 2) []
jalrs n s rd rs1 (Ptr o d) = tt
jalrs n s rd rs1 (Mix a b c d) = tt
jalrs n s rd rs1 (Low b) = tt

operates : (n : ℕ) (s : InfState) (rd : ℕ) (o : Option Operation) (x y : Value) → KeepsWritten n s (inf_operate s rd o x y)
operates n s rd (Some o) x y = λ h. h
operates n s rd None x y = tt

-- ---- system calls

reads-at : (l : Layout) (p : Mapping) (input : List ℕ) (s : InfState) (v : Value) (len word : ℕ) → Stands l v word → KeepsWritten l.count s (inf_read_at p input s v len)
reads-at l p input s (Num n) len word h = pick l.count s (not (avoids_heap n len)) _ _ tt (pick l.count s (is_span p.writable n len) _ _ (λ k. k) (λ k. k))
reads-at l p input s (Ptr o d) len word h = λ k. wrote l.count (λ offset. true) s.written o d (as_cells (taken input s.place len)) h.known k
reads-at l p input s (Mix a b c d) len word h = tt
reads-at l p input s (Low b) len word h = tt

reads-from : (l : Layout) (p : Mapping) (input : List ℕ) (s : InfState) (fd : ℕ) (v u : Value) (word : ℕ) → Stands l v word → KeepsWritten l.count s (inf_read_from p input s fd v u)
reads-from l p input s fd v (Num len) word h = pick l.count s (not (nat_eq fd 0)) _ _ (λ k. k) (pick l.count s (nat_eq len 0) _ _ (λ k. k) (reads-at l p input s v len word h))
reads-from l p input s fd v (Ptr o d) word h = pick l.count s (nat_eq fd 0) _ _ tt (λ k. k)
reads-from l p input s fd v (Mix a b c d) word h = pick l.count s (nat_eq fd 0) _ _ tt (λ k. k)
reads-from l p input s fd v (Low b) word h = pick l.count s (nat_eq fd 0) _ _ tt (λ k. k)

prints : (n : ℕ) (s : InfState) (fd len : ℕ) (o : Option (List ℕ)) (r : List Record) → KeepsWritten n s (inf_prints s fd len o r)
prints n s fd len (Some bytes) r = λ h. h
prints n s fd len None r = tt

writes-at : (n : ℕ) (p : Mapping) (s : InfState) (fd : ℕ) (v : Value) (len : ℕ) → KeepsWritten n s (inf_write_at p s fd v len)
writes-at n p s fd (Num x) len = pick n s (not (avoids_heap x len)) _ _ tt (pick n s (is_span p.mapped x len) _ _ (prints n s fd len _ []) (λ h. h))
writes-at n p s fd (Ptr o d) len = prints n s fd len _ _
writes-at n p s fd (Mix a b c d) len = tt
writes-at n p s fd (Low b) len = tt

writes-to : (n : ℕ) (p : Mapping) (s : InfState) (fd : ℕ) (v u : Value) → KeepsWritten n s (inf_write_to p s fd v u)
writes-to n p s fd v (Num len) = pick n s (not (is_printed fd)) _ _ (λ h. h) (pick n s (nat_eq len 0) _ _ (λ h. h) (writes-at n p s fd v len))
writes-to n p s fd v (Ptr o d) = pick n s (is_printed fd) _ _ tt (λ h. h)
writes-to n p s fd v (Mix a b c d) = pick n s (is_printed fd) _ _ tt (λ h. h)
writes-to n p s fd v (Low b) = pick n s (is_printed fd) _ _ tt (λ h. h)

serves : (l : Layout) (p : Mapping) (input : List ℕ) (s : InfState) (t : Core) → StateMatches l p s t → (a7 : ℕ) (v : Value) → KeepsWritten l.count s (inf_served p input s a7 v)
serves l p input s t m a7 (Num a0) =
    pick l.count s (is_exit a7) _ _ (λ h. h) (pick l.count s (is_read a7) _ _ (reads-from l p input s a0 (s.regs 11) (s.regs 12) (register t 11) (m.regs 11 (omega arith))) (writes-to l.count p s a0 (s.regs 11) (s.regs 12)))
serves l p input s t m a7 (Ptr o d) = tt
serves l p input s t m a7 (Mix a b c d) = tt
serves l p input s t m a7 (Low b) = tt

ecalls : (l : Layout) (p : Mapping) (input : List ℕ) (s : InfState) (t : Core) → StateMatches l p s t → (v : Value) → KeepsWritten l.count s (inf_ecall p input s v)
ecalls l p input s t m (Num a7) = pick l.count s (is_exit a7 || (is_read a7 || is_write a7)) _ _ (serves l p input s t m a7 (s.regs 10)) (λ h. h)
ecalls l p input s t m (Ptr o d) = tt
ecalls l p input s t m (Mix a b c d) = tt
ecalls l p input s t m (Low b) = tt

systems : (l : Layout) (p : Mapping) (input : List ℕ) (s : InfState) (t : Core) → StateMatches l p s t → (o : Op) → KeepsWritten l.count s (inf_system p input s o)
systems l p input s t m op.Ecall = ecalls l p input s t m (s.regs 17)
systems l p input s t m op.Ebreak = tt
systems l p input s t m op.Fence = λ h. h
systems l p input s t m op.FenceI = λ h. h
systems l p input s t m _ = tt

-- ---- one instruction

imm-fits : (z : ℤ) → z <ℤ pos 2048 → imm_word z < 2 ^ 32
imm-fits (pos n) h = omega (arith, ints)
imm-fits (negsuc n) h = omega arith

does : LiftIsSound → (l : Layout) → IsLayout l → (p : Mapping) (input : List ℕ) (s : InfState) (t : Core) → StateMatches l p s t → (i : Instr) → IsInRange i → KeepsWritten l.count s (inf_do p input s i)
does sound l il p input s t m (instr.Alu o rd rs1 rs2) h = operates l.count s rd (operation_of o) (s.regs rs1) (s.regs rs2)
does sound l il p input s t m (instr.AluImm o rd rs1 imm) h = operates l.count s rd (operation_of o) (s.regs rs1) (Num (imm_word imm))
does sound l il p input s t m (instr.Lui rd top) h = λ k. k
does sound l il p input s t m (instr.Auipc rd top) h = λ k. k
does sound l il p input s t m (instr.Jal rd imm) h = jumps l.count s (record s { regs = set_reg s.regs rd (Num (after s.pc)); calls = after_jal rd (after s.pc) s.calls }) refl ((s.pc + imm_word imm) % 2 ^ 32) []
does sound l il p input s t m (instr.Jalr rd rs1 imm) h = jalrs l.count s rd rs1 (lift (alignment_in s.objects) Add (s.regs rs1) (Num (imm_word imm)))
does sound l il p input s t m (instr.Branch o rs1 rs2 imm) h = branches l.count s (imm_word imm) (decide (size_in s.objects) o (s.regs rs1) (s.regs rs2))
does sound l il p input s t m (instr.Load o rd rs1 imm) h = loads l.count p s o rd (lift (alignment_in s.objects) Add (s.regs rs1) (Num (imm_word imm)))
does sound l il p input s t m (instr.Store o rs1 rs2 imm) (named, h1, h2, within) =
    stores l p s o (s.regs rs2) (lift (alignment_in s.objects) Add (s.regs rs1) (Num (imm_word imm))) (alu Add (register t rs1) (imm_word imm))
    (sound l il.aligned (alignment_in s.objects) m.aligned Add (s.regs rs1) (Num (imm_word imm)) (register t rs1) (imm_word imm) (m.fits rs1 h1) (imm-fits imm within.1) (m.regs rs1 h1) refl)
does sound l il p input s t m (instr.System o) h = systems l p input s t m o

decodes : LiftIsSound → (l : Layout) → IsLayout l → (p : Mapping) (input : List ℕ) (s : InfState) (t : Core) → StateMatches l p s t → (o : Option Instr) → IfSome o IsInRange → KeepsWritten l.count s (inf_decoded p input s o)
decodes sound l il p input s t m None h = tt
decodes sound l il p input s t m (Some i) h = does sound l il p input s t m i h

words : LiftIsSound → RowsAreInRange → (l : Layout) → IsLayout l → (p : Mapping) (input : List ℕ) (s : InfState) (t : Core) → StateMatches l p s t → (v : Value) → KeepsWritten l.count s (inf_word p input s v)
words sound rows l il p input s t m (Num w) = decodes sound l il p input s t m (row w) (rows w)
words sound rows l il p input s t m (Ptr o d) = tt
words sound rows l il p input s t m (Mix a b c d) = tt
words sound rows l il p input s t m (Low b) = tt

pub writes_are_known : LiftIsSound → RowsAreInRange → (l : Layout) → IsLayout l → (p : Mapping) (input : List ℕ) (s : InfState) (t : Core) → StateMatches l p s t → KeepsWritten l.count s (inf_fetch p input s)
writes_are_known sound rows l il p input s t m = pick l.count s (all_in p.runs s.pc 4) _ _ (words sound rows l il p input s t m (value_from false (get_all s.flat s.pc 4))) tt
