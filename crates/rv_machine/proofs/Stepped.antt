-- Instructions of the two machines match.
use Rattle.std.proofs.Common.{◌≡◌, ℕ, zero, suc, ◌+◌, ◌-◌, ◌*◌, ◌/◌, ◌%◌, ◌^◌, ◌<◌, ◌≤◌, refl, ap, sym, ◌∙◌, subst, Bool, true, false, cond, not, ◌⊎◌, inl, inr, arith, nat_eq, nat_lt, List, [], ◌∷◌, length, get_or, Option, None, Some, is_some}
use Rattle.std.specs.Prelude.{All, IfSome, IsTrue, int_lt}
use Rattle.std.proofs.lemmas.Bool.Decides.{nat_tests}
use Rattle.infinite_heap.specs.declared.access.Record.{Record}
use Rattle.infinite_heap.specs.declared.access.AccessKind.TheVariants as kind
use Rattle.infinite_heap.specs.declared.fault.FaultKind.TheVariants as fault
use Rattle.infinite_heap.specs.declared.instr.Op.{Op}
use Rattle.infinite_heap.specs.declared.instr.Op.TheVariants as op
use Rattle.infinite_heap.specs.declared.value.Cell.{Cell}
use Rattle.infinite_heap.specs.declared.value.Value.{Value}
use Rattle.infinite_heap.specs.declared.value.Value.TheVariants.{Num, Ptr, Mix, Low}
use Rattle.infinite_heap.specs.Alu.{signed}
use Rattle.infinite_heap.specs.Calls.{after_jalr}
use Rattle.infinite_heap.specs.Equality.{Decision, same, plain, opposite, touches}
use Rattle.infinite_heap.specs.InfiniteState as inf
use Rattle.infinite_heap.specs.InfiniteState.{InfState, InfStep, records_of, cells_of_state, clock_of, access, set_reg, after, inf_pass, inf_next}
use Rattle.infinite_heap.specs.InfiniteStep.{inf_jump, inf_branch, inf_load, inf_store, inf_jalr, decide}
use Rattle.infinite_heap.specs.InfiniteSystem.{all_in}
use Rattle.infinite_heap.specs.InRange.{is_load_op, is_store_op}
use Rattle.infinite_heap.specs.Layout.{Layout, IsAligned, AreAlignments, IsLayout, IsIn, IsPlace, place, Stands, AllStand, none, more, IsHarmlessByte, IsHarmlessStore, IsHarmlessUse, AllHarmless}
use Rattle.infinite_heap.specs.Mapped.{Mapping}
use Rattle.infinite_heap.specs.Memory.{Matches, get_all, store_all, width_of, extends_sign, cells_from, bytes_from, value_from}
use Rattle.infinite_heap.specs.Objects.{Object, alignment_in, begins_in}
use Rattle.infinite_heap.specs.Order.{below, below_signed}
use Rattle.infinite_heap.specs.Region.{in_region}
use Rattle.value_laws.specs.DecisionLaws.{DecisionHolds}
use Rattle.rv_memory.specs.Memory.{Memory, all_in_span, span, with_bytes, can_write}
use Rattle.rv_memory.specs.Laws.{from_each, span-none}
use Rattle.rv_machine.specs.Core as flat
use Rattle.rv_machine.specs.Core.{Core, Next, register, with_register, stepped, passed}
use Rattle.rv_machine.specs.Matches.{MapsAlike, StateMatches, StepMatches, bytes_in}
use Rattle.rv_machine.specs.Steps.{jumped, holds, branched, load, loaded_from, store, jump_and_link}
use Rattle.rv_machine.proofs.Spanned.{two_ways, clash, all_in-same, all_in-each, span-all}
use Rattle.rv_machine.proofs.Kept.{register-stands, register-fits, register-width, maps-written, matches-written}
use Rattle.rv_machine.specs.Facts.{Facts}
use Rattle.rv_machine.proofs.Loaded.{loaded_stands, stored_flat}

-- ---- two steps by cases

pub both_test : (l : Layout) (p : Mapping) (input : List ℕ) (s : InfState) (t : Core) (b c : Bool) (i j : InfStep) (f g : Next) → b ≡ c → (b ≡ true → StepMatches l p input s t i f) → (b ≡ false → StepMatches l p input s t j g)
    → StepMatches l p input s t (cond b i j) (cond c f g)
both_test l p input s t true true i j f g e h k = h refl
both_test l p input s t false false i j f g e h k = k refl
both_test l p input s t true false i j f g e h k = absurd (cc)
both_test l p input s t false true i j f g e h k = absurd (cc)

pub inf_test : (l : Layout) (p : Mapping) (input : List ℕ) (s : InfState) (t : Core) (b : Bool) (i j : InfStep) (f : Next) → (b ≡ true → StepMatches l p input s t i f) → (b ≡ false → StepMatches l p input s t j f) → StepMatches l p input s t (cond b i j) f
inf_test l p input s t true i j f h k = h refl
inf_test l p input s t false i j f h k = k refl

-- that the records are harmless may be used from the start
pub harmless_first : (l : Layout) (p : Mapping) (input : List ℕ) (s : InfState) (t : Core) (i : InfStep) (f : Next) → (AllHarmless l (records_of i) → StepMatches l p input s t i f) → StepMatches l p input s t i f
harmless_first l p input s t (inf.Goes s' r) (flat.Goes t') h = λ u. h u u
harmless_first l p input s t (inf.Goes s' r) _ h = λ u. h u u
harmless_first l p input s t (inf.Reads len s' r) (flat.Reads a n) h = λ u. h u u
harmless_first l p input s t (inf.Reads len s' r) _ h = λ u. h u u
harmless_first l p input s t (inf.Prints fd bytes s' r) (flat.Prints fd' a n bytes' t') h = λ u. h u u
harmless_first l p input s t (inf.Prints fd bytes s' r) _ h = λ u. h u u
harmless_first l p input s t (inf.Exits code s') f h = h tt
harmless_first l p input s t (inf.Faults k r) (flat.Faults k' a) h = λ u. h u u
harmless_first l p input s t (inf.Faults k r) _ h = λ u. h u u
harmless_first l p input s t (inf.Blurs w r) f h = tt

-- ---- states

-- the next instruction, with one more register written
pub next_matches : (l : Layout) (p : Mapping) (s : InfState) (t : Core) → StateMatches l p s t → (rd : ℕ) (v : Value) (a : ℕ) → rd < 32 → Stands l v a → a < 2 ^ 32 → StateMatches l p (inf_next s rd v) (stepped t rd a)
next_matches l p s t m rd v a hr stands h = record {
  pc = ap (λ (x : ℕ). (x + 4) % 2 ^ 32) m.pc;
  pc_fits = omega arith;
  steps = ap (λ (x : ℕ). x + 1) m.steps;
  calls = m.calls;
  count = m.count;
  aligned = m.aligned;
  width = register-width t.regs rd a m.width;
  fits = register-fits t.regs s.regs rd a v m.width hr h m.fits;
  regs = register-stands l t.regs s.regs rd a v m.width hr stands m.regs;
  maps = m.maps;
  memory = m.memory;
}

-- a counted step to an address
pub moves : (l : Layout) (p : Mapping) (s : InfState) (t : Core) → StateMatches l p s t → (x y : ℕ) → x ≡ y → y < 2 ^ 32 → StateMatches l p (record s { pc = x; steps = s.steps + 1 }) (record t { pc = y; steps = t.steps + 1 })
moves l p s t m x y e h = record {
  pc = e;
  pc_fits = h;
  steps = ap (λ (x : ℕ). x + 1) m.steps;
  calls = m.calls;
  count = m.count;
  aligned = m.aligned;
  width = m.width;
  fits = m.fits;
  regs = m.regs;
  maps = m.maps;
  memory = m.memory;
}

pub passes : (l : Layout) (p : Mapping) (s : InfState) (t : Core) → StateMatches l p s t → StateMatches l p (inf_pass s) (passed t)
passes l p s t m = moves l p s t m (after s.pc) (after t.pc) (ap after m.pc) (omega arith)

linked : (l : Layout) (p : Mapping) (s : InfState) (t : Core) → StateMatches l p s t → (rd : ℕ) (v : Value) (a : ℕ) → rd < 32 → Stands l v a → a < 2 ^ 32 → (cs ds : List ℕ) → cs ≡ ds
    → StateMatches l p (record s { regs = set_reg s.regs rd v; calls = cs }) (record t { regs = with_register t.regs rd a; calls = ds })
linked l p s t m rd v a hr stands h cs ds e = record {
  pc = m.pc;
  pc_fits = m.pc_fits;
  steps = m.steps;
  calls = e;
  count = m.count;
  aligned = m.aligned;
  width = register-width t.regs rd a m.width;
  fits = register-fits t.regs s.regs rd a v m.width hr h m.fits;
  regs = register-stands l t.regs s.regs rd a v m.width hr stands m.regs;
  maps = m.maps;
  memory = m.memory;
}

-- other cells and other bytes that match
pub put_in : (l : Layout) (p : Mapping) (s s' : InfState) (t : Core) (memory : Memory) → StateMatches l p s t → s'.pc ≡ s.pc → s'.steps ≡ s.steps → s'.calls ≡ s.calls → s'.objects ≡ s.objects → s'.regs ≡ s.regs
    → MapsAlike l p memory → Matches l (cells_of_state s') (bytes_in memory) → StateMatches l p s' (record t { memory = memory })
put_in l p s s' t memory m pc steps calls objects regs maps cells = record {
  pc = pc ∙ m.pc;
  pc_fits = m.pc_fits;
  steps = steps ∙ m.steps;
  calls = calls ∙ m.calls;
  count = ap length objects ∙ m.count;
  aligned = subst (λ (os : List Object). AreAlignments l (alignment_in os)) (sym objects) m.aligned;
  width = m.width;
  fits = m.fits;
  regs = λ r h. subst (λ (f : ℕ → Value). Stands l (f r) (get_or t.regs r 0)) (sym regs) (m.regs r h);
  maps = maps;
  memory = cells;
}

-- ---- jumps and branches

jump_matches : (l : Layout) (p : Mapping) (input : List ℕ) (s s' : InfState) (t t' : Core) → StateMatches l p s' t' → s'.place ≡ s.place → t'.ended ≡ t.ended → (x y : ℕ) → x ≡ y → y < 2 ^ 32 → (records : List Record)
    → StepMatches l p input s t (inf_jump s' x records) (jumped t' y)
jump_matches l p input s s' t t' m place ended x y e h records =
    both_test l p input s t (nat_eq (x % 4) 0) (nat_eq (y % 4) 0) _ _ _ _ (ap (λ (z : ℕ). nat_eq (z % 4) 0) e)
    (λ q. λ u. (moves l p s' t' m x y e h, place, ended))
    (λ q. λ u. refl)

plain_holds : (l : Layout) (clock pc : ℕ) (o : Option Bool) (b : Bool) → IfSome o (λ c. c ≡ b) → DecisionHolds l clock pc (plain o) b
plain_holds l clock pc (Some c) b h = λ u. h
plain_holds l clock pc None b h = tt

opposite_holds : (l : Layout) (clock pc : ℕ) (o : Option Decision) (b : Bool) → DecisionHolds l clock pc o b → DecisionHolds l clock pc (opposite o) (not b)
opposite_holds l clock pc (Some d) b h = λ u. ap not (h u)
opposite_holds l clock pc None b h = tt

pub decide_holds : Facts → (l : Layout) → IsLayout l → (sizes : ℕ → ℕ) (clock pc : ℕ) (o : Op) (x y : Value) (a b : ℕ) → a < 2 ^ 32 → b < 2 ^ 32 → Stands l x a → Stands l y b → DecisionHolds l clock pc (decide sizes o x y) (holds o a b)
decide_holds laws l il sizes clock pc op.Beq x y a b ha hb h k = laws.equal l il sizes x y a b clock pc h k
decide_holds laws l il sizes clock pc op.Bne x y a b ha hb h k = opposite_holds l clock pc (same sizes x y) (nat_eq a b) (laws.equal l il sizes x y a b clock pc h k)
decide_holds laws l il sizes clock pc op.Blt x y a b ha hb h k = plain_holds l clock pc (below_signed x y) (int_lt (signed a) (signed b)) (laws.signed l il.aligned x y a b ha hb h k)
decide_holds laws l il sizes clock pc op.Bge x y a b ha hb h k =
    opposite_holds l clock pc (plain (below_signed x y)) (int_lt (signed a) (signed b)) (plain_holds l clock pc (below_signed x y) (int_lt (signed a) (signed b)) (laws.signed l il.aligned x y a b ha hb h k))
decide_holds laws l il sizes clock pc op.Bltu x y a b ha hb h k = plain_holds l clock pc (below x y) (nat_lt a b) (laws.unsigned l il.aligned x y a b ha hb h k)
decide_holds laws l il sizes clock pc op.Bgeu x y a b ha hb h k =
    opposite_holds l clock pc (plain (below x y)) (nat_lt a b) (plain_holds l clock pc (below x y) (nat_lt a b) (laws.unsigned l il.aligned x y a b ha hb h k))
decide_holds laws l il sizes clock pc _ x y a b ha hb h k = tt

-- a branch whose answers differ has a record that does harm
decided : (l : Layout) (p : Mapping) (input : List ℕ) (s : InfState) (t : Core) → StateMatches l p s t → (x y : ℕ) → x ≡ y → y < 2 ^ 32 → (records : List Record) (b c : Bool) → (AllHarmless l records → b ≡ c)
    → StepMatches l p input s t (cond b (inf_jump s x records) (inf.Goes (inf_pass s) records)) (cond c (jumped t y) (flat.Goes (passed t)))
decided l p input s t m x y e h records true true q = jump_matches l p input s s t t m refl refl x y e h records
decided l p input s t m x y e h records false false q = λ u. (passes l p s t m, refl, refl)
decided l p input s t m x y e h records true false q =
    inf_test l p input s t (nat_eq (x % 4) 0) (inf.Goes (record s { pc = x; steps = s.steps + 1 }) records) (inf.Faults fault.Jump records) (flat.Goes (passed t)) (λ z. λ u. absurd (clash refl (q u))) (λ z. λ u. absurd (clash refl (q u)))
decided l p input s t m x y e h records false true q =
    two_ways (nat_eq (y % 4) 0) (λ b. StepMatches l p input s t (inf.Goes (inf_pass s) records) (cond b (flat.Goes (record t { pc = y; steps = t.steps + 1 })) (flat.Faults fault.Jump y))) (λ z. λ u. absurd (clash (q u) refl)) (λ z. λ u. absurd (clash (q u) refl))

pub branch_matches : (l : Layout) (p : Mapping) (input : List ℕ) (s : InfState) (t : Core) → StateMatches l p s t → (offset : ℕ) (o : Option Decision) (b : Bool) → DecisionHolds l (clock_of s) s.pc o b
    → StepMatches l p input s t (inf_branch s offset o) (branched t offset b)
branch_matches l p input s t m offset None b h = tt
branch_matches l p input s t m offset (Some d) b h =
    decided l p input s t m ((s.pc + offset) % 2 ^ 32) ((t.pc + offset) % 2 ^ 32) (ap (λ (x : ℕ). (x + offset) % 2 ^ 32) m.pc) (omega arith) (touches (clock_of s) s.pc d.looks) d.answer b h

pub link_matches : (l : Layout) (p : Mapping) (input : List ℕ) (s : InfState) (t : Core) → StateMatches l p s t → (rd : ℕ) → rd < 32 → (cs ds : List ℕ) → cs ≡ ds → (x y : ℕ) → x ≡ y → y < 2 ^ 32
    → StepMatches l p input s t (inf_jump (record s { regs = set_reg s.regs rd (Num (after s.pc)); calls = cs }) x []) (jump_and_link t rd y ds)
link_matches l p input s t m rd hr cs ds e x y q h =
    jump_matches l p input s (record s { regs = set_reg s.regs rd (Num (after s.pc)); calls = cs }) t (record t { regs = with_register t.regs rd (after t.pc); calls = ds })
    (linked l p s t m rd (Num (after s.pc)) (after t.pc) hr (ap after (sym m.pc)) (omega arith) cs ds e) refl refl x y q h []

pub jalr_matches : (l : Layout) (p : Mapping) (input : List ℕ) (s : InfState) (t : Core) → StateMatches l p s t → (rd rs1 : ℕ) → rd < 32 → (v : Value) (a : ℕ) → a < 2 ^ 32 → Stands l v a
    → StepMatches l p input s t (inf_jalr s rd rs1 v) (jump_and_link t rd (a / 2 * 2) (after_jalr rd rs1 (after t.pc) t.calls))
jalr_matches l p input s t m rd rs1 hr (Num n) a ha stands =
    link_matches l p input s t m rd hr (after_jalr rd rs1 (after s.pc) s.calls) (after_jalr rd rs1 (after t.pc) t.calls)
    (ap (λ (x : ℕ). after_jalr rd rs1 (after x) s.calls) m.pc ∙ ap (after_jalr rd rs1 (after t.pc)) m.calls) (n - n % 2) (a / 2 * 2) (omega (arith, stands)) (omega arith)
jalr_matches l p input s t m rd rs1 hr (Ptr o d) a ha stands = tt
jalr_matches l p input s t m rd rs1 hr (Mix b c d e) a ha stands = tt
jalr_matches l p input s t m rd rs1 hr (Low b) a ha stands = tt

-- ---- addresses of loads and stores

abbrev pub IsWide : ℕ → Type 0
IsWide w = (w ≡ 1) ⊎ ((w ≡ 2) ⊎ (w ≡ 4))

load-wide : (o : Op) → IsTrue (is_load_op o) → IsWide (width_of o)
load-wide op.Lb e = inl refl
load-wide op.Lbu e = inl refl
load-wide op.Lh e = inr (inl refl)
load-wide op.Lhu e = inr (inl refl)
load-wide op.Lw e = inr (inr refl)
load-wide _ e = absurd (cc)

pub store-wide : (o : Op) → IsTrue (is_store_op o) → IsWide (width_of o)
store-wide op.Sb e = inl refl
store-wide op.Sh e = inr (inl refl)
store-wide op.Sw e = inr (inr refl)
store-wide _ e = absurd (cc)

-- an aligned span ends at 2^32 at most
aligned-ends : (x w : ℕ) → IsWide w → x < 2 ^ 32 → x % w ≡ 0 → x + w ≤ 2 ^ 32
aligned-ends x w (inl t) h e = omega arith
aligned-ends x w (inr (inl t)) h e = let u : x % 2 ≡ 0 = rw t at e in omega arith
aligned-ends x w (inr (inr t)) h e = let u : x % 4 ≡ 0 = rw t at e in omega arith

outside_of : (x : ℕ) → in_region x ≡ false → (x < 2 ^ 30) ⊎ (2 ^ 31 ≤ x)
outside_of x h = grind (arith, nat_tests)

not_in_region : (x : ℕ) → (x < 2 ^ 30) ⊎ (2 ^ 31 ≤ x) → in_region x ≡ false
not_in_region x h = grind (arith, nat_tests)

-- an aligned span that begins outside the region lies outside of it
aligned-outside : (x w : ℕ) → IsWide w → x % w ≡ 0 → in_region x ≡ false → (y : ℕ) → x ≤ y → y < x + w → in_region y ≡ false
aligned-outside x w wide e r y low high = not_in_region y (go wide (outside_of x r))
  where
    go : IsWide w → (x < 2 ^ 30) ⊎ (2 ^ 31 ≤ x) → (y < 2 ^ 30) ⊎ (2 ^ 31 ≤ y)
    go (inl t) (inl o) = inl (omega arith)
    go (inl t) (inr o) = inr (omega arith)
    go (inr (inl t)) (inl o) = inl (let u : x % 2 ≡ 0 = rw t at e in omega arith)
    go (inr (inl t)) (inr o) = inr (omega arith)
    go (inr (inr t)) (inl o) = inl (let u : x % 4 ≡ 0 = rw t at e in omega arith)
    go (inr (inr t)) (inr o) = inr (omega arith)

-- addresses of a span that doesn't wrap
pub spot : (x w : ℕ) (P : ℕ → Type 0) → x + w ≤ 2 ^ 32 → ((y : ℕ) → x ≤ y → y < x + w → P y) → (j : ℕ) → j < w → P ((x + j) % 2 ^ 32)
spot x w P h each j hj = let e : (x + j) % 2 ^ 32 ≡ x + j = omega arith in subst P (sym e) (each (x + j) (omega arith) (omega arith))

pub from_spot : (x w : ℕ) (P : ℕ → Type 0) → x + w ≤ 2 ^ 32 → ((j : ℕ) → j < w → P ((x + j) % 2 ^ 32)) → (y : ℕ) → x ≤ y → y < x + w → P y
from_spot x w P h each y low high = let e : (x + (y - x)) % 2 ^ 32 ≡ y = omega arith in subst P e (each (y - x) (omega arith))

-- a place has the alignment of its offset
pub place-aligned : Facts → (l : Layout) → IsAligned l → (o d a w : ℕ) → IsWide w → IsPlace l o d a → a % w ≡ d % w
place-aligned laws l al o d a w (inl t) q = rw t (omega (arith, q.is, laws.whole l al o q.known))
place-aligned laws l al o d a w (inr (inl t)) q = rw t (omega (arith, q.is, laws.whole l al o q.known))
place-aligned laws l al o d a w (inr (inr t)) q = rw t (omega (arith, q.is, laws.whole l al o q.known))

pub place-fits : (l : Layout) (o d a : ℕ) → IsPlace l o d a → a < 2 ^ 32
place-fits l o d a q = omega (arith, q.is)

pub in_slot-mapped : Facts → (l : Layout) → IsLayout l → (p : Mapping) (memory : Memory) → MapsAlike l p memory → (o x : ℕ) → IsIn l o x → is_some (memory.bytes x) ≡ true
in_slot-mapped laws l il p memory m o x h = m.heap_mapped x (laws.region l il o x h) ∙ below_top
  where
    below_top : nat_lt x l.top ≡ true
    below_top = grind (arith, nat_tests, il.region_to o h.known, h.to)

harmless-region : Facts → (l : Layout) → IsLayout l → (o x : ℕ) → IsHarmlessByte l o x → in_region x ≡ true
harmless-region laws l il o x (inl h) = laws.region l il o x h
harmless-region laws l il o x (inr h) = grind (arith, nat_tests, h.from, h.to, il.top_below)

harmless-below : (l : Layout) → IsLayout l → (o x : ℕ) → IsHarmlessByte l o x → nat_lt x l.top ≡ true
harmless-below l il o x (inl h) = grind (arith, nat_tests, il.region_to o h.known, h.to)
harmless-below l il o x (inr h) = grind (arith, nat_tests, h.to)

pub harmless-low : (l : Layout) → IsLayout l → (o x : ℕ) → IsHarmlessByte l o x → 2 ^ 30 ≤ x
harmless-low l il o x (inl h) = omega (arith, il.region_from o h.known, h.from)
harmless-low l il o x (inr h) = h.from

pub harmless-writable : Facts → (l : Layout) → IsLayout l → (p : Mapping) (memory : Memory) → MapsAlike l p memory → (o x : ℕ) → IsHarmlessByte l o x → memory.writable x ≡ true
harmless-writable laws l il p memory m o x h = m.heap_writable x (harmless-region laws l il o x h) ∙ harmless-below l il o x h

pub aligned-from : (x : ℕ) → not (nat_eq x 0) ≡ false → x ≡ 0
aligned-from x e = grind (arith, nat_tests)

pub bytes-of : (l : Layout) {cs : List Cell} {bs : List ℕ} → AllStand l cs bs → All (λ b. b < 256) bs
bytes-of l none k d h = absurd (omega arith)
bytes-of l (more hb s a) zero d h = hb
bytes-of l (more hb s a) (suc k) d h = bytes-of l a k d (omega arith)

length-bytes_from : (w x : ℕ) → IsWide w → length (bytes_from w x) ≡ w
length-bytes_from w x (inl t) = rw t refl
length-bytes_from w x (inr (inl t)) = rw t refl
length-bytes_from w x (inr (inr t)) = rw t refl

-- ---- loads

pub load_matches : Facts → (l : Layout) → IsLayout l → (p : Mapping) (input : List ℕ) (s : InfState) (t : Core) → StateMatches l p s t → (o : Op) → IsTrue (is_load_op o) → (rd : ℕ) → rd < 32 → (v : Value) (a : ℕ) → a < 2 ^ 32 → Stands l v a
    → StepMatches l p input s t (inf_load p s o rd v) (load t o rd a)
load_matches laws l il p input s t m o ho rd hr (Num n) a ha stands =
    subst (λ (x : ℕ). StepMatches l p input s t (inf_load p s o rd (Num n)) (load t o rd x)) (sym stands)
    (inf_test l p input s t (in_region n) _ _ _ (λ r. tt) (λ r.
    both_test l p input s t (not (nat_eq (n % width_of o) 0)) (not (nat_eq (n % width_of o) 0)) _ _ _ _ refl (λ z. λ u. refl) (λ z.
    let hn : n < 2 ^ 32 = omega arith in
    let e : n % width_of o ≡ 0 = aligned-from (n % width_of o) z in
    let ends : n + width_of o ≤ 2 ^ 32 = aligned-ends n (width_of o) (load-wide o ho) hn e in
    let far : (y : ℕ) → n ≤ y → y < n + width_of o → in_region y ≡ false = aligned-outside n (width_of o) (load-wide o ho) e r in
    two_ways (all_in p.mapped n (width_of o)) (λ b. StepMatches l p input s t (cond b (inf.Goes (inf_next s rd (value_from (extends_sign o) (get_all s.flat n (width_of o)))) []) (inf.Faults fault.Load [])) (loaded_from t o rd n (span t.memory.bytes n (width_of o))))
    (λ y. let w = loaded_stands laws l (extends_sign o) (laws.outside_loads l (cells_of_state s) (bytes_in t.memory) m.memory n (width_of o) hn (spot n (width_of o) (λ x. in_region x ≡ false) ends far)) in
    let whole : span t.memory.bytes n (width_of o) ≡ Some (get_all (bytes_in t.memory) n (width_of o)) = span-all t.memory.bytes n (width_of o) ends (λ x low high.
    m.maps.mapped x (far x low high) ∙ all_in-each p.mapped n (width_of o) y x low high) in
    subst (λ (found : Option (List ℕ)). StepMatches l p input s t (inf.Goes (inf_next s rd (value_from (extends_sign o) (get_all s.flat n (width_of o)))) []) (loaded_from t o rd n found)) (sym whole)
    (λ u. (next_matches l p s t m rd _ _ hr w.0 w.1, refl, refl)))
    (λ y. let gone : span t.memory.bytes n (width_of o) ≡ None = span-none t.memory.bytes n (width_of o) (sym (all_in-same p.mapped (λ x. is_some (t.memory.bytes x)) n (width_of o) (λ x low high. sym (m.maps.mapped x (far x low high)))) ∙ y) in
    subst (λ (found : Option (List ℕ)). StepMatches l p input s t (inf.Faults fault.Load []) (loaded_from t o rd n found)) (sym gone) (λ u. refl)))))
load_matches laws l il p input s t m o ho rd hr (Ptr i d) a ha q =
    let same : a % width_of o ≡ d % width_of o = place-aligned laws l il.aligned i d a (width_of o) (load-wide o ho) q in
    both_test l p input s t (not (nat_eq (d % width_of o) 0)) (not (nat_eq (a % width_of o) 0)) _ _ _ _ (ap (λ (x : ℕ). not (nat_eq x 0)) (sym same)) (λ z. λ u. refl) (λ z.
    harmless_first l p input s t (inf.Goes (inf_next s rd (value_from (extends_sign o) (get_all ((cells_of_state s).heap i) d (width_of o)))) (access s kind.Load i d (width_of o) ∷ [])) (loaded_from t o rd a (span t.memory.bytes a (width_of o))) (λ u.
    let e : a % width_of o ≡ 0 = same ∙ aligned-from (d % width_of o) z in
    let ends : a + width_of o ≤ 2 ^ 32 = aligned-ends a (width_of o) (load-wide o ho) ha e in
    let held : IsHarmlessUse l i d (width_of o) = u.0 in
    let w = loaded_stands laws l (extends_sign o) (laws.pointer_loads l (cells_of_state s) (bytes_in t.memory) m.memory i d a (width_of o) q held) in
    let whole : span t.memory.bytes a (width_of o) ≡ Some (get_all (bytes_in t.memory) a (width_of o)) = span-all t.memory.bytes a (width_of o) ends (from_spot a (width_of o) (λ x. is_some (t.memory.bytes x) ≡ true) ends
    (λ j hj. subst (λ (x : ℕ). is_some (t.memory.bytes x) ≡ true) (laws.along l i d a j q) (in_slot-mapped laws l il p t.memory m.maps i (place l i (d + j)) (held.inside j hj)))) in
    subst (λ (found : Option (List ℕ)). StepMatches l p input s t (inf.Goes (inf_next s rd (value_from (extends_sign o) (get_all ((cells_of_state s).heap i) d (width_of o)))) (access s kind.Load i d (width_of o) ∷ [])) (loaded_from t o rd a found)) (sym whole)
    (λ u. (next_matches l p s t m rd _ _ hr w.0 w.1, refl, refl))))
load_matches laws l il p input s t m o ho rd hr (Mix b c d e) a ha q = tt
load_matches laws l il p input s t m o ho rd hr (Low b) a ha q = tt

-- ---- stores

pub store_does : Facts → (l : Layout) → IsLayout l → (p : Mapping) (input : List ℕ) (s : InfState) (t : Core) → StateMatches l p s t → (o : Op) → IsTrue (is_store_op o) → (v : Value) (b : ℕ) → Stands l v b → (x : Value) (a : ℕ) → a < 2 ^ 32 → Stands l x a
    → StepMatches l p input s t (inf_store p s o v x) (store t o b a)
store_does laws l il p input s t m o ho v b hv (Num n) a ha stands =
    subst (λ (x : ℕ). StepMatches l p input s t (inf_store p s o v (Num n)) (store t o b x)) (sym stands)
    (inf_test l p input s t (in_region n) _ _ _ (λ r. tt) (λ r.
    both_test l p input s t (not (nat_eq (n % width_of o) 0)) (not (nat_eq (n % width_of o) 0)) _ _ _ _ refl (λ z. λ u. refl) (λ z.
    let hn : n < 2 ^ 32 = omega arith in
    let e : n % width_of o ≡ 0 = aligned-from (n % width_of o) z in
    let ends : n + width_of o ≤ 2 ^ 32 = aligned-ends n (width_of o) (store-wide o ho) hn e in
    let far : (y : ℕ) → n ≤ y → y < n + width_of o → in_region y ≡ false = aligned-outside n (width_of o) (store-wide o ho) e r in
    let long : length (bytes_from (width_of o) b) ≡ width_of o = length-bytes_from (width_of o) b (store-wide o ho) in
    let stood : AllStand l (cells_from (width_of o) v) (bytes_from (width_of o) b) = laws.cells l v b hv (width_of o) in
    let alike : all_in p.writable n (width_of o) ≡ can_write t.memory n (width_of o) = all_in-same p.writable t.memory.writable n (width_of o) (λ x low high. sym (m.maps.writable x (far x low high))) in
    both_test l p input s t (all_in p.writable n (width_of o)) (can_write t.memory n (width_of o)) _ _ _ _ alike
    (λ y. λ u. (
      put_in l p (inf_pass s) _ (passed t) (with_bytes t.memory n (bytes_from (width_of o) b)) (passes l p s t m) refl refl refl refl refl
          (maps-written l p t.memory n (bytes_from (width_of o) b) m.maps (ap (all_in_span t.memory.writable n) long ∙ (sym alike ∙ y)) (bytes-of l stood))
          (matches-written l _ t.memory n (bytes_from (width_of o) b) (omega (arith, long, ends))
          (stored_flat laws l il (cells_of_state s) (bytes_in t.memory) m.memory n stood (λ j hj. spot n (width_of o) (λ x. in_region x ≡ false) ends far j (omega (arith, long, hj))) hn)),
      refl,
      refl,
    ))
    (λ y. λ u. refl))))
store_does laws l il p input s t m o ho v b hv (Ptr i d) a ha q =
    let same : a % width_of o ≡ d % width_of o = place-aligned laws l il.aligned i d a (width_of o) (store-wide o ho) q in
    both_test l p input s t (not (nat_eq (d % width_of o) 0)) (not (nat_eq (a % width_of o) 0)) _ _ _ _ (ap (λ (x : ℕ). not (nat_eq x 0)) (sym same)) (λ z. λ u. refl) (λ z.
    harmless_first l p input s t (inf.Goes (record (inf_pass s) { written = store_all s.written i d (cells_from (width_of o) v) }) (access s kind.Store i d (width_of o) ∷ [])) _ (λ u.
    let e : a % width_of o ≡ 0 = same ∙ aligned-from (d % width_of o) z in
    let ends : a + width_of o ≤ 2 ^ 32 = aligned-ends a (width_of o) (store-wide o ho) ha e in
    let harmless : IsHarmlessStore l i d (width_of o) = u.0 in
    let long : length (bytes_from (width_of o) b) ≡ width_of o = length-bytes_from (width_of o) b (store-wide o ho) in
    let stood : AllStand l (cells_from (width_of o) v) (bytes_from (width_of o) b) = laws.cells l v b hv (width_of o) in
    let can : can_write t.memory a (width_of o) ≡ true = from_each t.memory.writable a (width_of o) (from_spot a (width_of o) (λ x. t.memory.writable x ≡ true) ends
    (λ j hj. subst (λ (x : ℕ). t.memory.writable x ≡ true) (laws.along l i d a j q) (harmless-writable laws l il p t.memory m.maps i (place l i (d + j)) (harmless j hj)))) in
    two_ways (can_write t.memory a (width_of o)) (λ c. StepMatches l p input s t (inf.Goes (record (inf_pass s) { written = store_all s.written i d (cells_from (width_of o) v) }) (access s kind.Store i d (width_of o) ∷ [])) (cond c (flat.Goes (record (passed t) { memory = with_bytes t.memory a (bytes_from (width_of o) b) })) (flat.Faults fault.Store a)))
    (λ y. λ u. (
      put_in l p (inf_pass s) _ (passed t) (with_bytes t.memory a (bytes_from (width_of o) b)) (passes l p s t m) refl refl refl refl refl
          (maps-written l p t.memory a (bytes_from (width_of o) b) m.maps (ap (all_in_span t.memory.writable a) long ∙ can) (bytes-of l stood))
          (matches-written l _ t.memory a (bytes_from (width_of o) b) (omega (arith, long, ends))
          (laws.store l il s.flat (begins_in s.objects) (λ offset. true) s.written (bytes_in t.memory) m.memory i d a (width_of o) q harmless v b hv)),
      refl,
      refl,
    ))
    (λ y. absurd (clash can y))))
store_does laws l il p input s t m o ho v b hv (Mix c d e f) a ha q = tt
store_does laws l il p input s t m o ho v b hv (Low c) a ha q = tt
