-- What a run on the infinite heap records are objects that there are. A pointer is to one of so many objects where it
-- stands for a word under a layout of so many.
use Rattle.std.proofs.Common.{◌≡◌, ℕ, zero, suc, ◌+◌, ◌-◌, ◌*◌, ◌%◌, ◌^◌, ◌<◌, ◌≤◌, refl, Bool, true, false, cond, ◌&&◌, ◌||◌, not, arith, nat_eq, nat_lt, max, min, List, [], ◌∷◌, ◌++◌, length, drop, get_or, Option, None, Some, unwrap_or}
use Rattle.std.specs.Prelude.{⊤, IfSome, ℤ, slice_set}
use Rattle.std.specs.Bool.{then_some}
use Rattle.std.proofs.lemmas.Bool.Decides.{nat_tests}
use Rattle.std.proofs.lemmas.List.{length-append, length-set}
use Rattle.infinite_heap.specs.declared.access.Record.{Record}
use Rattle.infinite_heap.specs.declared.instr.Instr.{Instr}
use Rattle.infinite_heap.specs.declared.instr.Instr.TheVariants as instr
use Rattle.infinite_heap.specs.declared.instr.Op.{Op}
use Rattle.infinite_heap.specs.declared.instr.Op.TheVariants as op
use Rattle.infinite_heap.specs.declared.instr.Operation.{Operation}
use Rattle.infinite_heap.specs.declared.instr.Operation.TheVariants.{Add}
use Rattle.infinite_heap.specs.declared.program.HeapCall.{HeapCall}
use Rattle.infinite_heap.specs.declared.program.HeapCall.TheVariants.{Malloc, Free, Calloc, Realloc, Memalign, AlignedAlloc, MallocR, FreeR, CallocR, ReallocR, MemalignR}
use Rattle.infinite_heap.specs.declared.program.HeapName.{HeapName}
use Rattle.infinite_heap.specs.declared.value.Cell.{Cell}
use Rattle.infinite_heap.specs.declared.value.Cell.TheVariants.{Byte, Part, Unset}
use Rattle.infinite_heap.specs.declared.value.Value.{Value}
use Rattle.infinite_heap.specs.declared.value.Value.TheVariants.{Num, Ptr, Mix, Low}
use Rattle.infinite_heap.specs.Alu.{alu}
use Rattle.infinite_heap.specs.Calls.{after_jal, after_jalr}
use Rattle.infinite_heap.specs.Covered.{next_records}
use Rattle.infinite_heap.specs.Equality.{Decision, same, two_pointers, pointer_and_number, plain, opposite, touches}
use Rattle.infinite_heap.specs.InfiniteHeap.{call_at, inf_back_with, with_object, with_copy, with_moved, inf_allocate, inf_malloc, inf_calloc, inf_memalign_of, inf_memalign, inf_free_object, inf_free, inf_resize, inf_realloc_object, inf_realloc, inf_called, inf_call_from}
use Rattle.infinite_heap.specs.InfiniteRun.{InfRun, InfEnding, inf_after, inf_step_of, inf_mapping, inf_start, inf_run}
use Rattle.infinite_heap.specs.InfiniteState.{InfState, InfStep, Goes, Reads, Prints, Exits, Faults, Blurs, records_of, cells_of_state, clock_of, set_reg, after}
use Rattle.infinite_heap.specs.InfiniteStep.{imm_word, inf_jump, decide, inf_branch, inf_load, inf_store, inf_jalr, inf_operate, inf_system, inf_do, inf_decoded, inf_word, inf_step_at, inf_step}
use Rattle.infinite_heap.specs.InfiniteSystem.{bad_descriptor, bad_span, no_call, is_read, is_write, is_exit, is_printed, all_in, avoids_heap, is_span, inf_answers, taken, as_cells, inf_read_at, inf_read_from, inf_prints, inf_write_at, inf_write_to, inf_served, inf_ecall}
use Rattle.infinite_heap.specs.InRange.{IsInRange, IsImm12}
use Rattle.infinite_heap.specs.Layout.{Layout, IsAligned, AreAlignments, Stands, CellStands, AllStand, none, more}
use Rattle.infinite_heap.specs.Lift.{lift}
use Rattle.infinite_heap.specs.Loaded.{Loaded}
use Rattle.infinite_heap.specs.Mapped.{Mapping, byte_at}
use Rattle.infinite_heap.specs.Memory.{Written, put, put_all, get_all, next, cell_at, write_all, is_stored, width_of, extends_sign, value_from, word_from, cells_from}
use Rattle.infinite_heap.specs.Objects.{Freed, Object, no_object, new_object, object_at, alignment_in, begins_in, size_in, with_free}
use Rattle.infinite_heap.specs.Operations.{operation_of}
use Rattle.infinite_heap.specs.Order.{near, below, below_signed}
use Rattle.infinite_heap.specs.Region.{in_region, most_allocated, least_alignment, greatest_alignment, is_valid_alignment}
use Rattle.infinite_heap.specs.CallSite.{site_of}
use Rattle.infinite_heap.specs.Row.{row}
use Rattle.infinite_heap.specs.Start.{segments_of, stack_pointer}
use Rattle.rv_machine.specs.Laws.{AllBytes, AllKnown, StartsWithBytes, RecordsAreKnown}
use Rattle.rv_machine.proofs.Called.{all-drop, all-take, length-take_le}
use Rattle.rv_machine.specs.Facts.{Facts}
use Rattle.rv_machine.proofs.Loaded.{loaded_stands}
use Rattle.rv_machine.proofs.Matched.{imm-fits, held-fits}
use Rattle.rv_machine.proofs.Spanned.{two_ways}

-- so many objects, all in one place
abbrev lay : ℕ → Layout
lay n = record { count = n; at = λ o. 2 ^ 30; align = λ o. greatest_alignment; slot = λ o. 2 ^ 30; span = λ o. 0; held = λ o. false; owned = λ o. false; top = 2 ^ 30 }

aligned : (n : ℕ) → IsAligned (lay n)
aligned n = record { power = λ o h. (12, omega arith, omega arith, refl); whole = λ o h. refl; above = λ o h. omega arith; below = λ o h. omega arith }

-- a value, and a cell, whose pointers are to one of n objects
abbrev Word : ℕ → Value → Type 0
Word n v = (x : ℕ) × (x < 2 ^ 32) × Stands (lay n) v x

abbrev Bite : ℕ → Cell → Type 0
Bite n c = (b : ℕ) × (b < 256) × CellStands (lay n) c b

abbrev Bites : ℕ → List Cell → Type 0
Bites n [] = ⊤
Bites n (c ∷ cs) = Bite n c × Bites n cs

-- ---- values and cells

later-cell : (n m : ℕ) → n ≤ m → (c : Cell) (b : ℕ) → CellStands (lay n) c b → CellStands (lay m) c b
later-cell n m h (Byte k) b s = s
later-cell n m h (Part o d k) b s = record { known = omega (arith, s.known); fits = s.fits; is = s.is }
later-cell n m h Unset b s = tt

later-stands : (n m : ℕ) → n ≤ m → (v : Value) (x : ℕ) → Stands (lay n) v x → Stands (lay m) v x
later-stands n m h (Num k) x s = s
later-stands n m h (Ptr o d) x s = record { known = omega (arith, s.known); fits = s.fits; is = s.is }
later-stands n m h (Mix c0 c1 c2 c3) x s = (later-cell n m h c0 _ s.0, later-cell n m h c1 _ s.1, later-cell n m h c2 _ s.2, later-cell n m h c3 _ s.3)
later-stands n m h (Low b) x s = s

later : (n m : ℕ) → n ≤ m → (v : Value) → Word n v → Word m v
later n m h v w = (w.0, w.1, later-stands n m h v w.0 w.2)

later-bite : (n m : ℕ) → n ≤ m → (c : Cell) → Bite n c → Bite m c
later-bite n m h c w = (w.0, w.1, later-cell n m h c w.0 w.2)

number : (n k : ℕ) → k < 2 ^ 32 → Word n (Num k)
number n k h = (k, h, refl)

lifted : Facts → (n : ℕ) (aligns : ℕ → ℕ) → AreAlignments (lay n) aligns → (o : Operation) (x y : Value) → Word n x → Word n y → Word n (lift aligns o x y)
lifted laws n aligns ok o x y v w = (alu o v.0 w.0, laws.words o v.0 w.0 v.1 w.1, laws.lift (lay n) (aligned n) aligns ok o x y v.0 w.0 v.1 w.1 v.2 w.2)

from-stood : (n : ℕ) {cs : List Cell} {bs : List ℕ} → AllStand (lay n) cs bs → Bites n cs
from-stood n none = tt
from-stood n (more {c} {b} {cs} {bs} hb s a) = ((b, hb, s), from-stood n a)

stood : (n : ℕ) (cs : List Cell) → Bites n cs → (bs : List ℕ) × AllStand (lay n) cs bs
stood n [] h = ([], none)
stood n (c ∷ cs) h = let r = stood n cs h.1 in (h.0.0 ∷ r.0, more h.0.1 h.0.2 r.1)

loads : Facts → (n : ℕ) (extends : Bool) (cs : List Cell) → Bites n cs → Word n (value_from extends cs)
loads laws n extends cs h = let r = stood n cs h in let w = loaded_stands laws (lay n) extends r.1 in (word_from extends r.0, w.1, w.0)

lowest : Facts → (n k : ℕ) (v : Value) → Word n v → Bites n (cells_from k v)
lowest laws n k v w = from-stood n (laws.cells (lay n) v w.0 w.2 k)

from-input : Facts → (n : ℕ) (bytes : List ℕ) → AllBytes bytes → Bites n (as_cells bytes)
from-input laws n bytes all = from-stood n (laws.numbers (lay n) bytes all)

gets : (n : ℕ) (f : ℕ → Cell) → ((x : ℕ) → Bite n (f x)) → (x k : ℕ) → Bites n (get_all f x k)
gets n f h x zero = tt
gets n f h x (suc k) = (h x, gets n f h (next x) k)

puts : (n : ℕ) (f : ℕ → Cell) → ((x : ℕ) → Bite n (f x)) → (x : ℕ) (cs : List Cell) → Bites n cs → (y : ℕ) → Bite n (put_all f x cs y)
puts n f h x [] k y = h y
puts n f h x (c ∷ cs) k y = puts n (put f x c) (λ z. two_ways (nat_eq x z) (λ b. Bite n (cond b c (f z))) (λ e. k.0) (λ e. h z)) (next x) cs k.1 y

abbrev AllWritten : ℕ → List Written → Type 0
AllWritten n [] = ⊤
AllWritten n (w ∷ ws) = Bite n w.cell × AllWritten n ws

written-later : (n m : ℕ) → n ≤ m → (ws : List Written) → AllWritten n ws → AllWritten m ws
written-later n m h [] k = tt
written-later n m h (w ∷ ws) k = (later-bite n m h w.cell k.0, written-later n m h ws k.1)

cells-at : (n : ℕ) (begins : ℕ → Cell) → ((o : ℕ) → Bite n (begins o)) → (ws : List Written) → AllWritten n ws → (o d : ℕ) → Bite n (cell_at begins ws o d)
cells-at n begins h [] k o d = h o
cells-at n begins h (w ∷ ws) k o d = two_ways (nat_eq w.object o && nat_eq w.offset d) (λ b. Bite n (cond b w.cell (cell_at begins ws o d))) (λ e. k.0) (λ e. cells-at n begins h ws k.1 o d)

writes : (n : ℕ) (marks : ℕ → Bool) (ws : List Written) → AllWritten n ws → (o d : ℕ) (cs : List Cell) → Bites n cs → AllWritten n (write_all marks ws o d cs)
writes n marks ws h o d [] k = h
writes n marks ws h o d (c ∷ cs) k = writes n marks (record { object = o; offset = d; cell = c; stored = marks d } ∷ ws) (k.0, h) o (next d) cs k.1

-- ---- objects begin with cells that are no pointers, and have no greater alignment than there is

abbrev Begins : Object → Type 0
Begins object = ((n : ℕ) → Bite n object.begins) × (object.alignment ≤ greatest_alignment)

abbrev AllBegin : List Object → Type 0
AllBegin [] = ⊤
AllBegin (x ∷ xs) = Begins x × AllBegin xs

begins-at : (objects : List Object) → AllBegin objects → (o : ℕ) → Begins (get_or objects o no_object)
begins-at [] h o = (λ n. (0, omega arith, tt), omega arith)
begins-at (x ∷ xs) h zero = h.0
begins-at (x ∷ xs) h (suc o) = begins-at xs h.1 o

begins-more : (objects : List Object) (x : Object) → AllBegin objects → Begins x → AllBegin (objects ++ x ∷ [])
begins-more [] x h b = (b, tt)
begins-more (y ∷ ys) x h b = (h.0, begins-more ys x h.1 b)

begins-set : (objects : List Object) (o : ℕ) (x : Object) → AllBegin objects → Begins x → AllBegin (slice_set objects o x)
begins-set [] o x h b = tt
begins-set (y ∷ ys) zero x h b = (b, h.1)
begins-set (y ∷ ys) (suc o) x h b = (h.0, begins-set ys o x h.1 b)

new-begins : (align size site : ℕ) (zeroed : Bool) → align ≤ greatest_alignment → Begins (new_object size align site zeroed)
new-begins align size site zeroed fits = (λ n. two_ways zeroed (λ z. Bite n (cond z (Byte 0) Unset)) (λ e. (0, omega arith, refl)) (λ e. (0, omega arith, tt)), fits)

-- ---- states

record Knows (regs : ℕ → Value) (flat : ℕ → Cell) (written : List Written) (objects : List Object) : Type 0 where
  words : (r : ℕ) → Word (length objects) (regs r)
  cells : (x : ℕ) → Bite (length objects) (flat x)
  stored : AllWritten (length objects) written
  begun : AllBegin objects

abbrev Known : InfState → Type 0
Known s = Knows s.regs s.flat s.written s.objects

-- the next state knows its pointers, and what the step records is known before it
abbrev Keeps : InfState → InfStep → Type 0
Keeps s (Goes s' r) = Known s' × AllKnown (length s.objects) r
Keeps s (Reads len s' r) = Known s' × AllKnown (length s.objects) r
Keeps s (Prints fd bytes s' r) = Known s' × AllKnown (length s.objects) r
Keeps s (Exits code s') = Known s'
Keeps s (Faults k r) = AllKnown (length s.objects) r
Keeps s (Blurs w r) = AllKnown (length s.objects) r

pick : (s : InfState) (b : Bool) (i j : InfStep) → Keeps s i → Keeps s j → Keeps s (cond b i j)
pick s true i j h k = h
pick s false i j h k = k

with-word : (regs : ℕ → Value) (flat : ℕ → Cell) (written : List Written) (objects : List Object) → Knows regs flat written objects → (rd : ℕ) (v : Value) → Word (length objects) v → Knows (set_reg regs rd v) flat written objects
with-word regs flat written objects k rd v h = record {
  words = λ r. two_ways (nat_eq rd r && not (nat_eq rd 0)) (λ b. Word (length objects) (cond b v (regs r))) (λ e. h) (λ e. k.words r);
  cells = k.cells;
  stored = k.stored;
  begun = k.begun;
}

with-cells : (regs : ℕ → Value) (flat : ℕ → Cell) (written : List Written) (objects : List Object) → Knows regs flat written objects → (x : ℕ) (cs : List Cell) → Bites (length objects) cs → Knows regs (put_all flat x cs) written objects
with-cells regs flat written objects k x cs h = record { words = k.words; cells = puts (length objects) flat k.cells x cs h; stored = k.stored; begun = k.begun }

with-writes : (regs : ℕ → Value) (flat : ℕ → Cell) (written : List Written) (objects : List Object) → Knows regs flat written objects → (marks : ℕ → Bool) (o d : ℕ) (cs : List Cell) → Bites (length objects) cs → Knows regs flat (write_all marks written o d cs) objects
with-writes regs flat written objects k marks o d cs h = record { words = k.words; cells = k.cells; stored = writes (length objects) marks written k.stored o d cs h; begun = k.begun }

with-new : (regs : ℕ → Value) (flat : ℕ → Cell) (written : List Written) (objects : List Object) → Knows regs flat written objects → (align size site : ℕ) (zeroed : Bool) → align ≤ greatest_alignment → Knows regs flat written (objects ++ new_object size align site zeroed ∷ [])
with-new regs flat written objects k align size site zeroed fits =
    let longer : length objects ≤ length (objects ++ new_object size align site zeroed ∷ []) = omega (arith, length-append objects (new_object size align site zeroed ∷ [])) in record {
      words = λ r. later _ _ longer (regs r) (k.words r);
      cells = λ x. later-bite _ _ longer (flat x) (k.cells x);
      stored = written-later _ _ longer written k.stored;
      begun = begins-more objects (new_object size align site zeroed) k.begun (new-begins align size site zeroed fits);
    }

with-gone : (regs : ℕ → Value) (flat : ℕ → Cell) (written : List Written) (objects : List Object) → Knows regs flat written objects → (o : ℕ) (freed : Freed) → Knows regs flat written (with_free objects o freed)
with-gone regs flat written objects k o freed =
    let longer : length objects ≤ length (with_free objects o freed) = omega (arith, length-set objects o (record (object_at objects o) { freed = Some freed })) in record {
      words = λ r. later _ _ longer (regs r) (k.words r);
      cells = λ x. later-bite _ _ longer (flat x) (k.cells x);
      stored = written-later _ _ longer written k.stored;
      begun = begins-set objects o (record (object_at objects o) { freed = Some freed }) k.begun (begins-at objects k.begun o);
    }

alignments-known : (s : InfState) → Known s → AreAlignments (lay (length s.objects)) (alignment_in s.objects)
alignments-known s k o h = (begins-at s.objects k.begun o).1

object-cells : (s : InfState) → Known s → (o d : ℕ) → Bite (length s.objects) (cell_at (begins_in s.objects) s.written o d)
object-cells s k o d = cells-at (length s.objects) (begins_in s.objects) (λ i. (begins-at s.objects k.begun i).0 (length s.objects)) s.written k.stored o d

-- ---- instructions

jumps : (s s' : InfState) → Known s' → (target : ℕ) (r : List Record) → AllKnown (length s.objects) r → Keeps s (inf_jump s' target r)
jumps s s' k target r h = pick s (nat_eq (target % 4) 0) _ _ (k, h) h

abbrev LooksKnown : ℕ → ℕ → ℕ → Option Decision → Type 0
LooksKnown n clock pc o = IfSome o (λ d. AllKnown n (touches clock pc d.looks))

plainly : (n clock pc : ℕ) (o : Option Bool) → LooksKnown n clock pc (plain o)
plainly n clock pc (Some b) = tt
plainly n clock pc None = tt

turned : (n clock pc : ℕ) (o : Option Decision) → LooksKnown n clock pc o → LooksKnown n clock pc (opposite o)
turned n clock pc (Some d) h = h
turned n clock pc None h = tt

-- an answer that looks at nothing
abbrev unseen : Bool → Decision
unseen b = record { answer = b; looks = [] }

number-looks : (n clock pc d m : ℕ) → LooksKnown n clock pc (pointer_and_number d m)
number-looks n clock pc d m = two_ways (near d && not (in_region m)) (λ b. LooksKnown n clock pc (then_some b (unseen false))) (λ e. tt) (λ e. tt)

abbrev both : (o d p e : ℕ) → Decision
both o d p e = record { answer = false; looks = record { object = o; offset = d; width = 1 } ∷ record { object = p; offset = e; width = 1 } ∷ [] }

pointer-looks : (n clock pc : ℕ) (sizes : ℕ → ℕ) (o d p e : ℕ) → o < n → p < n → LooksKnown n clock pc (two_pointers sizes o d p e)
pointer-looks n clock pc sizes o d p e ho hp =
    two_ways (nat_eq o p) (λ b. LooksKnown n clock pc (cond b (Some (unseen (nat_eq d e))) (then_some (nat_lt d (max (sizes o) 1) && nat_lt e (max (sizes p) 1)) (both o d p e)))) (λ q. tt)
    (λ q. two_ways (nat_lt d (max (sizes o) 1) && nat_lt e (max (sizes p) 1)) (λ b. LooksKnown n clock pc (then_some b (both o d p e))) (λ r. (ho, (hp, tt))) (λ r. tt))

same-looks : (n clock pc : ℕ) (sizes : ℕ → ℕ) (x y : Value) → Word n x → Word n y → LooksKnown n clock pc (same sizes x y)
same-looks n clock pc sizes (Num a) (Num b) v w = tt
same-looks n clock pc sizes (Ptr o d) (Num b) v w = number-looks n clock pc d b
same-looks n clock pc sizes (Num a) (Ptr o d) v w = number-looks n clock pc d a
same-looks n clock pc sizes (Ptr o d) (Ptr p e) v w = pointer-looks n clock pc sizes o d p e v.2.known w.2.known
same-looks n clock pc sizes x y v w = tt

decide-looks : (n clock pc : ℕ) (sizes : ℕ → ℕ) (o : Op) (x y : Value) → Word n x → Word n y → LooksKnown n clock pc (decide sizes o x y)
decide-looks n clock pc sizes op.Beq x y v w = same-looks n clock pc sizes x y v w
decide-looks n clock pc sizes op.Bne x y v w = turned n clock pc (same sizes x y) (same-looks n clock pc sizes x y v w)
decide-looks n clock pc sizes op.Blt x y v w = plainly n clock pc (below_signed x y)
decide-looks n clock pc sizes op.Bge x y v w = turned n clock pc (plain (below_signed x y)) (plainly n clock pc (below_signed x y))
decide-looks n clock pc sizes op.Bltu x y v w = plainly n clock pc (below x y)
decide-looks n clock pc sizes op.Bgeu x y v w = turned n clock pc (plain (below x y)) (plainly n clock pc (below x y))
decide-looks n clock pc sizes _ x y v w = tt

branches : (s : InfState) → Known s → (offset : ℕ) (o : Option Decision) → LooksKnown (length s.objects) (clock_of s) s.pc o → Keeps s (inf_branch s offset o)
branches s k offset None h = tt
branches s k offset (Some d) h = pick s d.answer _ _ (jumps s s k ((s.pc + offset) % 2 ^ 32) (touches (clock_of s) s.pc d.looks) h) (k, h)

load-known : Facts → (p : Mapping) (s : InfState) → Known s → (o : Op) (rd : ℕ) (v : Value) → Word (length s.objects) v → Keeps s (inf_load p s o rd v)
load-known laws p s k o rd (Num n) w =
    pick s (in_region n) _ _ tt (pick s (not (nat_eq (n % width_of o) 0)) _ _ tt (pick s (all_in p.mapped n (width_of o)) _ _
    (with-word s.regs s.flat s.written s.objects k rd (value_from (extends_sign o) (get_all s.flat n (width_of o))) (loads laws (length s.objects) (extends_sign o) (get_all s.flat n (width_of o)) (gets (length s.objects) s.flat k.cells n (width_of o))), tt) tt))
load-known laws p s k o rd (Ptr i d) w =
    pick s (not (nat_eq (d % width_of o) 0)) _ _ tt
    (with-word s.regs s.flat s.written s.objects k rd (value_from (extends_sign o) (get_all ((cells_of_state s).heap i) d (width_of o))) (loads laws (length s.objects) (extends_sign o) (get_all ((cells_of_state s).heap i) d (width_of o)) (gets (length s.objects) ((cells_of_state s).heap i) (object-cells s k i) d (width_of o))), (w.2.known, tt))
load-known laws p s k o rd (Mix a b c d) w = tt
load-known laws p s k o rd (Low b) w = tt

store-known : Facts → (p : Mapping) (s : InfState) → Known s → (o : Op) (x v : Value) → Word (length s.objects) x → Word (length s.objects) v → Keeps s (inf_store p s o x v)
store-known laws p s k o x (Num n) h w =
    pick s (in_region n) _ _ tt (pick s (not (nat_eq (n % width_of o) 0)) _ _ tt (pick s (all_in p.writable n (width_of o)) _ _
    (with-cells s.regs s.flat s.written s.objects k n (cells_from (width_of o) x) (lowest laws (length s.objects) (width_of o) x h), tt) tt))
store-known laws p s k o x (Ptr i d) h w =
    pick s (not (nat_eq (d % width_of o) 0)) _ _ tt
    (with-writes s.regs s.flat s.written s.objects k (λ offset. true) i d (cells_from (width_of o) x) (lowest laws (length s.objects) (width_of o) x h), (w.2.known, tt))
store-known laws p s k o x (Mix a b c d) h w = tt
store-known laws p s k o x (Low b) h w = tt

linked : (s : InfState) → Known s → (rd : ℕ) → Knows (set_reg s.regs rd (Num (after s.pc))) s.flat s.written s.objects
linked s k rd = with-word s.regs s.flat s.written s.objects k rd (Num (after s.pc)) (number (length s.objects) (after s.pc) (omega arith))

jalr-known : (s : InfState) → Known s → (rd rs1 : ℕ) (v : Value) → Keeps s (inf_jalr s rd rs1 v)
jalr-known s k rd rs1 (Num n) = jumps s (record s { regs = set_reg s.regs rd (Num (after s.pc)); calls = after_jalr rd rs1 (after s.pc) s.calls }) (linked s k rd) (n - n % 2) [] tt
jalr-known s k rd rs1 (Ptr o d) = tt
jalr-known s k rd rs1 (Mix a b c d) = tt
jalr-known s k rd rs1 (Low b) = tt

operate-known : Facts → (s : InfState) → Known s → (rd : ℕ) (o : Option Operation) (x y : Value) → Word (length s.objects) x → Word (length s.objects) y → Keeps s (inf_operate s rd o x y)
operate-known laws s k rd (Some o) x y v w = (with-word s.regs s.flat s.written s.objects k rd (lift (alignment_in s.objects) o x y) (lifted laws (length s.objects) (alignment_in s.objects) (alignments-known s k) o x y v w), tt)
operate-known laws s k rd None x y v w = tt

-- ---- system calls

answers-known : (s : InfState) → Known s → (n : ℕ) → n < 2 ^ 32 → Keeps s (inf_answers s n)
answers-known s k n h = (with-word s.regs s.flat s.written s.objects k 10 (Num n) (number (length s.objects) n h), tt)

fresh : Facts → (input : List ℕ) → AllBytes input → (s : InfState) → (len : ℕ) → Bites (length s.objects) (as_cells (taken input s.place len))
fresh laws input all s len = from-input laws (length s.objects) (taken input s.place len) (all-take (λ b. b < 256) len (drop s.place input) (all-drop (λ b. b < 256) s.place input all))

counted : (input : List ℕ) (s : InfState) → Known s → (len : ℕ) → len < 2 ^ 32 → Knows (set_reg s.regs 10 (Num (length (taken input s.place len)))) s.flat s.written s.objects
counted input s k len h = with-word s.regs s.flat s.written s.objects k 10 (Num (length (taken input s.place len))) (number (length s.objects) (length (taken input s.place len)) (omega (arith, length-take_le len (drop s.place input))))

read-at : Facts → (p : Mapping) (input : List ℕ) → AllBytes input → (s : InfState) → Known s → (v : Value) → Word (length s.objects) v → (len : ℕ) → len < 2 ^ 32 → Keeps s (inf_read_at p input s v len)
read-at laws p input all s k (Num n) w len h =
    pick s (not (avoids_heap n len)) _ _ tt (pick s (is_span p.writable n len) _ _
    (with-cells _ s.flat s.written s.objects (counted input s k len h) n (as_cells (taken input s.place len)) (fresh laws input all s len), tt)
    (answers-known s k bad_span (omega arith)))
read-at laws p input all s k (Ptr o d) w len h = (with-writes _ s.flat s.written s.objects (counted input s k len h) (λ offset. true) o d (as_cells (taken input s.place len)) (fresh laws input all s len), (w.2.known, tt))
read-at laws p input all s k (Mix a b c d) w len h = tt
read-at laws p input all s k (Low b) w len h = tt

read-from : Facts → (p : Mapping) (input : List ℕ) → AllBytes input → (s : InfState) → Known s → (fd : ℕ) (v u : Value) → Word (length s.objects) v → Word (length s.objects) u → Keeps s (inf_read_from p input s fd v u)
read-from laws p input all s k fd v (Num len) w h =
    pick s (not (nat_eq fd 0)) _ _ (answers-known s k bad_descriptor (omega arith)) (pick s (nat_eq len 0) _ _ (answers-known s k 0 (omega arith)) (read-at laws p input all s k v w len (omega (arith, h.1, h.2))))
read-from laws p input all s k fd v (Ptr o d) w h = pick s (nat_eq fd 0) _ _ tt (answers-known s k bad_descriptor (omega arith))
read-from laws p input all s k fd v (Mix a b c d) w h = pick s (nat_eq fd 0) _ _ tt (answers-known s k bad_descriptor (omega arith))
read-from laws p input all s k fd v (Low b) w h = pick s (nat_eq fd 0) _ _ tt (answers-known s k bad_descriptor (omega arith))

prints-known : (s : InfState) → Known s → (fd len : ℕ) → len < 2 ^ 32 → (o : Option (List ℕ)) (r : List Record) → AllKnown (length s.objects) r → Keeps s (inf_prints s fd len o r)
prints-known s k fd len h (Some bytes) r q = (with-word s.regs s.flat s.written s.objects k 10 (Num len) (number (length s.objects) len h), q)
prints-known s k fd len h None r q = q

write-at : (p : Mapping) (s : InfState) → Known s → (fd : ℕ) (v : Value) → Word (length s.objects) v → (len : ℕ) → len < 2 ^ 32 → Keeps s (inf_write_at p s fd v len)
write-at p s k fd (Num n) w len h = pick s (not (avoids_heap n len)) _ _ tt (pick s (is_span p.mapped n len) _ _ (prints-known s k fd len h _ [] tt) (answers-known s k bad_span (omega arith)))
write-at p s k fd (Ptr o d) w len h = prints-known s k fd len h _ _ (w.2.known, tt)
write-at p s k fd (Mix a b c d) w len h = tt
write-at p s k fd (Low b) w len h = tt

write-to : (p : Mapping) (s : InfState) → Known s → (fd : ℕ) (v u : Value) → Word (length s.objects) v → Word (length s.objects) u → Keeps s (inf_write_to p s fd v u)
write-to p s k fd v (Num len) w h =
    pick s (not (is_printed fd)) _ _ (answers-known s k bad_descriptor (omega arith)) (pick s (nat_eq len 0) _ _ (answers-known s k 0 (omega arith)) (write-at p s k fd v w len (omega (arith, h.1, h.2))))
write-to p s k fd v (Ptr o d) w h = pick s (is_printed fd) _ _ tt (answers-known s k bad_descriptor (omega arith))
write-to p s k fd v (Mix a b c d) w h = pick s (is_printed fd) _ _ tt (answers-known s k bad_descriptor (omega arith))
write-to p s k fd v (Low b) w h = pick s (is_printed fd) _ _ tt (answers-known s k bad_descriptor (omega arith))

served-known : Facts → (p : Mapping) (input : List ℕ) → AllBytes input → (s : InfState) → Known s → (a7 : ℕ) (v : Value) → Keeps s (inf_served p input s a7 v)
served-known laws p input all s k a7 (Num a0) =
    pick s (is_exit a7) _ _ k (pick s (is_read a7) _ _ (read-from laws p input all s k a0 (s.regs 11) (s.regs 12) (k.words 11) (k.words 12)) (write-to p s k a0 (s.regs 11) (s.regs 12) (k.words 11) (k.words 12)))
served-known laws p input all s k a7 (Ptr o d) = tt
served-known laws p input all s k a7 (Mix a b c d) = tt
served-known laws p input all s k a7 (Low b) = tt

ecall-known : Facts → (p : Mapping) (input : List ℕ) → AllBytes input → (s : InfState) → Known s → (v : Value) → Keeps s (inf_ecall p input s v)
ecall-known laws p input all s k (Num a7) = pick s (is_exit a7 || (is_read a7 || is_write a7)) _ _ (served-known laws p input all s k a7 (s.regs 10)) (answers-known s k no_call (omega arith))
ecall-known laws p input all s k (Ptr o d) = tt
ecall-known laws p input all s k (Mix a b c d) = tt
ecall-known laws p input all s k (Low b) = tt

system-known : Facts → (p : Mapping) (input : List ℕ) → AllBytes input → (s : InfState) → Known s → (o : Op) → Keeps s (inf_system p input s o)
system-known laws p input all s k op.Ecall = ecall-known laws p input all s k (s.regs 17)
system-known laws p input all s k op.Ebreak = tt
system-known laws p input all s k op.Fence = (k, tt)
system-known laws p input all s k op.FenceI = (k, tt)
system-known laws p input all s k _ = tt

-- ---- one instruction

address : Facts → (s : InfState) → Known s → (rs1 : ℕ) (imm : ℤ) → IsImm12 imm → Word (length s.objects) (lift (alignment_in s.objects) Add (s.regs rs1) (Num (imm_word imm)))
address laws s k rs1 imm within = lifted laws (length s.objects) (alignment_in s.objects) (alignments-known s k) Add (s.regs rs1) (Num (imm_word imm)) (k.words rs1) (number (length s.objects) (imm_word imm) (imm-fits imm 2048 within.1 (omega arith)))

do-known : Facts → (p : Mapping) (input : List ℕ) → AllBytes input → (s : InfState) → Known s → (i : Instr) → IsInRange i → Keeps s (inf_do p input s i)
do-known laws p input all s k (instr.Alu o rd rs1 rs2) h = operate-known laws s k rd (operation_of o) (s.regs rs1) (s.regs rs2) (k.words rs1) (k.words rs2)
do-known laws p input all s k (instr.AluImm o rd rs1 imm) h = operate-known laws s k rd (operation_of o) (s.regs rs1) (Num (imm_word imm)) (k.words rs1) (number (length s.objects) (imm_word imm) (held-fits o imm h.2))
do-known laws p input all s k (instr.Lui rd top) h = (with-word s.regs s.flat s.written s.objects k rd (Num (top * 4096)) (number (length s.objects) (top * 4096) (omega (arith, h.1))), tt)
do-known laws p input all s k (instr.Auipc rd top) h = (with-word s.regs s.flat s.written s.objects k rd (Num ((s.pc + top * 4096) % 2 ^ 32)) (number (length s.objects) ((s.pc + top * 4096) % 2 ^ 32) (omega arith)), tt)
do-known laws p input all s k (instr.Jal rd imm) h = jumps s (record s { regs = set_reg s.regs rd (Num (after s.pc)); calls = after_jal rd (after s.pc) s.calls }) (linked s k rd) ((s.pc + imm_word imm) % 2 ^ 32) [] tt
do-known laws p input all s k (instr.Jalr rd rs1 imm) h = jalr-known s k rd rs1 (lift (alignment_in s.objects) Add (s.regs rs1) (Num (imm_word imm)))
do-known laws p input all s k (instr.Branch o rs1 rs2 imm) h = branches s k (imm_word imm) (decide (size_in s.objects) o (s.regs rs1) (s.regs rs2)) (decide-looks (length s.objects) (clock_of s) s.pc (size_in s.objects) o (s.regs rs1) (s.regs rs2) (k.words rs1) (k.words rs2))
do-known laws p input all s k (instr.Load o rd rs1 imm) h = load-known laws p s k o rd (lift (alignment_in s.objects) Add (s.regs rs1) (Num (imm_word imm))) (address laws s k rs1 imm h.3)
do-known laws p input all s k (instr.Store o rs1 rs2 imm) h = store-known laws p s k o (s.regs rs2) (lift (alignment_in s.objects) Add (s.regs rs1) (Num (imm_word imm))) (k.words rs2) (address laws s k rs1 imm h.3)
do-known laws p input all s k (instr.System o) h = system-known laws p input all s k o

decoded-known : Facts → (p : Mapping) (input : List ℕ) → AllBytes input → (s : InfState) → Known s → (o : Option Instr) → IfSome o IsInRange → Keeps s (inf_decoded p input s o)
decoded-known laws p input all s k None h = tt
decoded-known laws p input all s k (Some i) h = do-known laws p input all s k i h

word-known : Facts → (p : Mapping) (input : List ℕ) → AllBytes input → (s : InfState) → Known s → (v : Value) → Keeps s (inf_word p input s v)
word-known laws p input all s k (Num w) = decoded-known laws p input all s k (row w) (laws.rows w)
word-known laws p input all s k (Ptr o d) = tt
word-known laws p input all s k (Mix a b c d) = tt
word-known laws p input all s k (Low b) = tt

-- ---- heap calls

back-known : (s s' : InfState) → Known s' → (r : List Record) → AllKnown (length s.objects) r → (back : ℕ) (v : Value) → Word (length s'.objects) v → Keeps s (Goes (inf_back_with s' back v) r)
back-known s s' k r h back v w = (with-word s'.regs s'.flat s'.written s'.objects k 10 v w, h)

new-pointer : (s : InfState) (align size site : ℕ) (zeroed : Bool) → Word (length (s.objects ++ new_object size align site zeroed ∷ [])) (Ptr (clock_of s) 0)
new-pointer s align size site zeroed = (2 ^ 30, omega arith, record { known = omega (arith, length-append s.objects (new_object size align site zeroed ∷ [])); fits = omega arith; is = refl })

nothing-known : (s : InfState) → Known s → (back : ℕ) → Keeps s (Goes (inf_back_with s back (Num 0)) [])
nothing-known s k back = back-known s s k [] tt back (Num 0) (number (length s.objects) 0 (omega arith))

allocate-known : (s : InfState) → Known s → (zeroed : Bool) (back align size : ℕ) → align ≤ greatest_alignment → Keeps s (inf_allocate s zeroed back align size)
allocate-known s k zeroed back align size fits =
    pick s (nat_lt most_allocated size) _ _ (nothing-known s k back)
    (back-known s (with_object s zeroed align size) (with-new s.regs s.flat s.written s.objects k align size (site_of s.calls) zeroed fits) [] tt back (Ptr (clock_of s) 0) (new-pointer s align size (site_of s.calls) zeroed))

malloc-known : (s : InfState) → Known s → (zeroed : Bool) (back : ℕ) (v : Value) → Keeps s (inf_malloc s zeroed back v)
malloc-known s k zeroed back (Num size) = allocate-known s k zeroed back least_alignment size (omega arith)
malloc-known s k zeroed back (Ptr o d) = tt
malloc-known s k zeroed back (Mix a b c d) = tt
malloc-known s k zeroed back (Low b) = tt

calloc-known : (s : InfState) → Known s → (back : ℕ) (v u : Value) → Keeps s (inf_calloc s back v u)
calloc-known s k back (Num count) (Num each) = allocate-known s k true back least_alignment (count * each) (omega arith)
calloc-known s k back (Num count) (Ptr o d) = tt
calloc-known s k back (Num count) (Mix a b c d) = tt
calloc-known s k back (Num count) (Low b) = tt
calloc-known s k back (Ptr o d) u = tt
calloc-known s k back (Mix a b c d) u = tt
calloc-known s k back (Low b) u = tt

valid-fits : (align : ℕ) → is_valid_alignment align ≡ true → max align least_alignment ≤ greatest_alignment
unfolding is_valid_alignment
valid-fits align h = grind (arith, nat_tests)

memalign-of : (s : InfState) → Known s → (zeroed : Bool) (back align : ℕ) (v : Value) → Keeps s (inf_memalign_of s zeroed back align v)
memalign-of s k zeroed back align (Num size) = two_ways (is_valid_alignment align) (λ b. Keeps s (cond b (inf_allocate s zeroed back (max align least_alignment) size) (Goes (inf_back_with s back (Num 0)) [])))
    (λ e. allocate-known s k zeroed back (max align least_alignment) size (valid-fits align e)) (λ e. nothing-known s k back)
memalign-of s k zeroed back align (Ptr o d) = tt
memalign-of s k zeroed back align (Mix a b c d) = tt
memalign-of s k zeroed back align (Low b) = tt

memalign-known : (s : InfState) → Known s → (zeroed : Bool) (back : ℕ) (v u : Value) → Keeps s (inf_memalign s zeroed back v u)
memalign-known s k zeroed back (Num align) u = memalign-of s k zeroed back align u
memalign-known s k zeroed back (Ptr o d) u = tt
memalign-known s k zeroed back (Mix a b c d) u = tt
memalign-known s k zeroed back (Low b) u = tt

free-object : (s : InfState) → Known s → (back o : ℕ) → o < length s.objects → (f : Option Freed) → Keeps s (inf_free_object s back o f)
free-object s k back o h None = (with-gone s.regs s.flat s.written s.objects k o (record { clock = clock_of s; site = site_of s.calls }), tt)
free-object s k back o h (Some freed) = (k, (h, tt))

free-known : (s : InfState) → Known s → (back : ℕ) (v : Value) → Word (length s.objects) v → Keeps s (inf_free s back v)
free-known s k back (Num n) w = pick s (in_region n) _ _ tt (k, tt)
free-known s k back (Ptr o d) w = pick s (nat_eq d 0) _ _ (free-object s k back o w.2.known (object_at s.objects o).freed) (k, (w.2.known, tt))
free-known s k back (Mix a b c d) w = tt
free-known s k back (Low b) w = tt

moved-known : (s : InfState) → Known s → (zeroed : Bool) (o size : ℕ) → Known (with_moved s zeroed o size)
moved-known s k zeroed o size =
    let grown : Known (with_object s zeroed least_alignment size) = with-new s.regs s.flat s.written s.objects k least_alignment size (site_of s.calls) zeroed (omega arith) in
    with-gone s.regs s.flat (with_copy (with_object s zeroed least_alignment size) o (clock_of s) (min (size_in s.objects o) size)).written (with_object s zeroed least_alignment size).objects
    (with-writes s.regs s.flat s.written (with_object s zeroed least_alignment size).objects grown (is_stored s.written o) (clock_of s) 0 (get_all ((cells_of_state (with_object s zeroed least_alignment size)).heap o) 0 (min (size_in s.objects o) size))
    (gets (length (with_object s zeroed least_alignment size).objects) ((cells_of_state (with_object s zeroed least_alignment size)).heap o) (object-cells (with_object s zeroed least_alignment size) grown o) 0 (min (size_in s.objects o) size)))
    o (record { clock = clock_of (with_object s zeroed least_alignment size); site = site_of s.calls })

moved-pointer : (s : InfState) (zeroed : Bool) (o size : ℕ) → Word (length (with_moved s zeroed o size).objects) (Ptr (clock_of s) 0)
moved-pointer s zeroed o size = let w = new-pointer s least_alignment size (site_of s.calls) zeroed in
    later (length (with_object s zeroed least_alignment size).objects) (length (with_moved s zeroed o size).objects) (omega (
      arith,
      length-set (with_object s zeroed least_alignment size).objects o
          (record (object_at (with_object s zeroed least_alignment size).objects o) { freed = Some (record { clock = clock_of (with_object s zeroed least_alignment size); site = site_of s.calls }) }),
    )) (Ptr (clock_of s) 0) w

resize-known : (s : InfState) → Known s → (zeroed : Bool) (back o : ℕ) (v : Value) → Keeps s (inf_resize s zeroed back o v)
resize-known s k zeroed back o (Num size) =
    pick s (nat_lt most_allocated size) _ _ (nothing-known s k back)
    (back-known s (with_moved s zeroed o size) (moved-known s k zeroed o size) [] tt back (Ptr (clock_of s) 0) (moved-pointer s zeroed o size))
resize-known s k zeroed back o (Ptr i d) = tt
resize-known s k zeroed back o (Mix a b c d) = tt
resize-known s k zeroed back o (Low b) = tt

realloc-object : (s : InfState) → Known s → (zeroed : Bool) (back o : ℕ) (v : Value) (f : Option Freed) → Keeps s (inf_realloc_object s zeroed back o v f)
realloc-object s k zeroed back o v None = resize-known s k zeroed back o v
realloc-object s k zeroed back o v (Some freed) = tt

realloc-known : (s : InfState) → Known s → (zeroed : Bool) (back : ℕ) (v u : Value) → Keeps s (inf_realloc s zeroed back v u)
realloc-known s k zeroed back (Num n) u = pick s (nat_eq n 0) _ _ (malloc-known s k zeroed back u) tt
realloc-known s k zeroed back (Ptr o d) u = pick s (nat_eq d 0) _ _ (realloc-object s k zeroed back o u (object_at s.objects o).freed) tt
realloc-known s k zeroed back (Mix a b c d) u = tt
realloc-known s k zeroed back (Low b) u = tt

called-known : (s : InfState) → Known s → (zeroed : Bool) (back : ℕ) (f : HeapCall) → Keeps s (inf_called s zeroed back f)
called-known s k zeroed back Malloc = malloc-known s k zeroed back (s.regs 10)
called-known s k zeroed back MallocR = malloc-known s k zeroed back (s.regs 11)
called-known s k zeroed back Free = free-known s k back (s.regs 10) (k.words 10)
called-known s k zeroed back FreeR = free-known s k back (s.regs 11) (k.words 11)
called-known s k zeroed back Calloc = calloc-known s k back (s.regs 10) (s.regs 11)
called-known s k zeroed back CallocR = calloc-known s k back (s.regs 11) (s.regs 12)
called-known s k zeroed back Realloc = realloc-known s k zeroed back (s.regs 10) (s.regs 11)
called-known s k zeroed back ReallocR = realloc-known s k zeroed back (s.regs 11) (s.regs 12)
called-known s k zeroed back Memalign = memalign-known s k zeroed back (s.regs 10) (s.regs 11)
called-known s k zeroed back AlignedAlloc = memalign-known s k zeroed back (s.regs 10) (s.regs 11)
called-known s k zeroed back MemalignR = memalign-known s k zeroed back (s.regs 11) (s.regs 12)

call-known : (s : InfState) → Known s → (zeroed : Bool) (f : HeapCall) (ra : Value) → Keeps s (inf_call_from s zeroed f ra)
call-known s k zeroed f (Num ra) = pick s (nat_eq ((ra - ra % 2) % 4) 0) _ _ (called-known s k zeroed (ra - ra % 2) f) tt
call-known s k zeroed f (Ptr o d) = tt
call-known s k zeroed f (Mix a b c d) = tt
call-known s k zeroed f (Low b) = tt

-- ---- steps and runs

step-known : Facts → (p : Mapping) (zeroed : Bool) (input : List ℕ) → AllBytes input → (s : InfState) → Known s → (f : Option HeapCall) → Keeps s (inf_step_at p zeroed input s f)
step-known laws p zeroed input all s k (Some f) = call-known s k zeroed f (s.regs 1)
step-known laws p zeroed input all s k None = pick s (all_in p.runs s.pc 4) _ _ (word-known laws p input all s k (value_from false (get_all s.flat s.pc 4))) tt

recorded : (s : InfState) (i : InfStep) → Keeps s i → AllKnown (length s.objects) (records_of i)
recorded s (Goes s' r) h = h.1
recorded s (Reads len s' r) h = h.1
recorded s (Prints fd bytes s' r) h = h.1
recorded s (Exits code s') h = tt
recorded s (Faults k r) h = h
recorded s (Blurs w r) h = h

goes-on : (run : InfRun) → Known run.state → (i : InfStep) → Keeps run.state i → Known (inf_after run i).state
goes-on run k (Goes s' r) h = h.0
goes-on run k (Reads len s' r) h = h.0
goes-on run k (Prints fd bytes s' r) h = h.0
goes-on run k (Exits code s') h = h
goes-on run k (Faults c r) h = k
goes-on run k (Blurs w r) h = k

turn-known : Facts → (p : Mapping) (names : List HeapName) (zeroed : Bool) (input : List ℕ) → AllBytes input → (run : InfRun) → Known run.state → (e : Option InfEnding) → Known (inf_step_of p names zeroed input run e).state
turn-known laws p names zeroed input all run k None = goes-on run k (inf_step p names zeroed input run.state) (step-known laws p zeroed input all run.state k (call_at names run.state.pc))
turn-known laws p names zeroed input all run k (Some e) = k

next-known : Facts → (p : Mapping) (names : List HeapName) (zeroed : Bool) (input : List ℕ) → AllBytes input → (run : InfRun) → Known run.state → (e : Option InfEnding) → AllKnown (length run.state.objects) (next_records p names zeroed input run e)
next-known laws p names zeroed input all run k None = recorded run.state (inf_step p names zeroed input run.state) (step-known laws p zeroed input all run.state k (call_at names run.state.pc))
next-known laws p names zeroed input all run k (Some e) = tt

begin-known : (program : Loaded) (args : List (List ℕ)) → StartsWithBytes program args → Known (inf_start program args).state
begin-known program args bytes = record {
  words = λ r. two_ways (nat_eq r 2) (λ b. Word 0 (cond b (Num (stack_pointer args)) (Num 0))) (λ e. number 0 (stack_pointer args) (omega arith)) (λ e. number 0 0 (omega arith));
  cells = λ x. starts x (byte_at (segments_of program args) x) refl;
  stored = tt;
  begun = tt;
}
  where
    starts : (x : ℕ) (o : Option ℕ) → byte_at (segments_of program args) x ≡ o → Bite 0 (Byte (unwrap_or o 0))
    starts x (Some b) e = (b, bytes x b e, refl)
    starts x None e = (0, omega arith, refl)

run-known : Facts → (program : Loaded) (args : List (List ℕ)) → StartsWithBytes program args → (input : List ℕ) → AllBytes input → (zeroed : Bool) (n : ℕ) → Known (inf_run program args input zeroed n).state
unfolding inf_run
run-known laws program args bytes input all zeroed zero = begin-known program args bytes
run-known laws program args bytes input all zeroed (suc n) =
    turn-known laws (inf_mapping program args) program.names zeroed input all (inf_run program args input zeroed n) (run-known laws program args bytes input all zeroed n) (inf_run program args input zeroed n).ending

pub records_are_known : Facts → RecordsAreKnown
records_are_known laws program args bytes input all zeroed n =
    next-known laws (inf_mapping program args) program.names zeroed input all (inf_run program args input zeroed n) (run-known laws program args bytes input all zeroed n) (inf_run program args input zeroed n).ending
