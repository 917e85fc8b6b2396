-- An instruction changes no byte of the heap region but where it records a store.
use Rattle.std.proofs.Common.{◌≡◌, ℕ, ◌+◌, ◌-◌, ◌%◌, ◌/◌, ◌*◌, ◌^◌, ◌<◌, ◌≤◌, refl, ap, sym, ◌∙◌, subst, Bool, true, false, cond, not, ◌&&◌, ◌||◌, ◌⊎◌, inl, inr, arith, nat_eq, nat_le, ◌==◌, List, [], ◌∷◌, length, drop, get_or, Option, None, Some}
use Rattle.std.specs.Prelude.{IsTrue}
use Rattle.std.proofs.lemmas.Bool.Decides.{nat_tests}
use Rattle.infinite_heap.specs.declared.access.AccessKind.TheVariants as kind
use Rattle.infinite_heap.specs.declared.fault.FaultKind.TheVariants as fault
use Rattle.infinite_heap.specs.declared.fault.Why.TheVariants as why
use Rattle.infinite_heap.specs.declared.instr.Instr.{Instr}
use Rattle.infinite_heap.specs.declared.instr.Instr.TheVariants as instr
use Rattle.infinite_heap.specs.declared.instr.Op.{Op}
use Rattle.infinite_heap.specs.declared.instr.Op.TheVariants as op
use Rattle.infinite_heap.specs.declared.instr.Operation.{Operation}
use Rattle.infinite_heap.specs.declared.instr.Operation.TheVariants.{Add}
use Rattle.infinite_heap.specs.declared.value.Value.{Value}
use Rattle.infinite_heap.specs.declared.value.Value.TheVariants.{Num, Ptr, Mix, Low}
use Rattle.infinite_heap.specs.Alu.{alu}
use Rattle.infinite_heap.specs.Calls.{after_jal, after_jalr}
use Rattle.infinite_heap.specs.InfiniteState as inf
use Rattle.infinite_heap.specs.InfiniteState.{InfState, InfStep, records_of, access, inf_pass, after}
use Rattle.infinite_heap.specs.InfiniteStep.{imm_word, inf_store, inf_do, inf_system}
use Rattle.infinite_heap.specs.InfiniteSystem.{bad_descriptor, bad_span, no_call, is_read, is_write, is_exit, is_printed, avoids_heap, inf_answers, taken, inf_read_at, inf_read_from, inf_served, inf_ecall}
use Rattle.infinite_heap.specs.InRange.{IsInRange, is_store_op}
use Rattle.infinite_heap.specs.Layout.{Layout, IsLayout, IsPlace, place, Stands}
use Rattle.infinite_heap.specs.Lift.{lift}
use Rattle.infinite_heap.specs.Mapped.{Mapping}
use Rattle.infinite_heap.specs.Memory.{width_of, extends_sign, bytes_from}
use Rattle.infinite_heap.specs.Objects.{alignment_in}
use Rattle.infinite_heap.specs.Operations.{operation_of}
use Rattle.infinite_heap.specs.Region.{in_region}
use Rattle.infinite_heap.specs.Values.{byte}
use Rattle.rv_memory.specs.Memory.{Memory, within, with_bytes, span, can_write, is_lawful}
use Rattle.rv_machine.specs.Core as flat
use Rattle.rv_machine.specs.Core.{Core, Next, register, with_register, stepped, passed, exited}
use Rattle.rv_machine.specs.Facts.{Facts}
use Rattle.rv_machine.specs.Flat.{Flat, carried}
use Rattle.rv_machine.specs.Matches.{StateMatches}
use Rattle.rv_machine.specs.Steps.{jumped, holds, load, loaded_from, store, operate, answers, read_call, prints, write_call, ecall, system, executed, next}
use Rattle.rv_machine.specs.Stored.{StoresAt, NoneStoresAt, IsClearStep, StoresAreRecorded}
use Rattle.rv_machine.proofs.Spanned.{two_ways, clash, within-parts}
use Rattle.rv_machine.proofs.Stepped.{IsWide, store-wide, place-aligned, aligned-from}
use Rattle.rv_machine.proofs.Called.{length-take_le}
use Rattle.rv_machine.proofs.Matched.{imm-fits, step_holds}

-- the byte at an address is the same after a step of the core
abbrev Keeps : (input : List ℕ) (x : ℕ) → Flat → Next → Type 0
Keeps input x f n = (carried input f n).guest.core.memory.bytes x ≡ f.guest.core.memory.bytes x

-- so it is where the step is clear and none of its records is of a store there
abbrev Leaves : Layout → (input : List ℕ) (x : ℕ) → Flat → InfStep → Next → Type 0
Leaves l input x f i n = IsClearStep i → NoneStoresAt l (records_of i) x → Keeps input x f n

choose : (input : List ℕ) (x : ℕ) (f : Flat) (b : Bool) (n m : Next) → (b ≡ true → Keeps input x f n) → Keeps input x f m → Keeps input x f (cond b n m)
choose input x f true n m h k = h refl
choose input x f false n m h k = k

test : (l : Layout) (input : List ℕ) (x : ℕ) (f : Flat) (b : Bool) (i j : InfStep) (n : Next) → (b ≡ true → Leaves l input x f i n) → (b ≡ false → Leaves l input x f j n) → Leaves l input x f (cond b i j) n
test l input x f true i j n h k = h refl
test l input x f false i j n h k = k refl

-- ---- bytes that are written

-- an address is none of so many from one on
abbrev Misses : (x from count : ℕ) → Type 0
Misses x from count = (j : ℕ) → j < count → x ≡ from + j → ⊥

missed : (m : Memory) (from : ℕ) (bytes : List ℕ) (count x : ℕ) → length bytes ≤ count → Misses x from count → (with_bytes m from bytes).bytes x ≡ m.bytes x
missed m from bytes count x few h =
    two_ways (within from (length bytes) x) (λ b. cond b (Some (get_or bytes (x - from) 0)) (m.bytes x) ≡ m.bytes x)
    (λ e. let w = within-parts from (length bytes) x e in absurd (h (x - from) (omega (arith, w.0, w.1, few)) (omega (arith, w.0))))
    (λ e. refl)

-- a place behind a pointer is the address behind its own, where that is in the heap region
behind : Facts → (l : Layout) (o d a x count : ℕ) → IsPlace l o d a → in_region x ≡ true → ((j : ℕ) → j < count → x ≡ place l o (d + j) → ⊥) → Misses x a count
behind laws l o d a x count q r h j hj e =
    let low : x < 2 ^ 32 = grind (arith, nat_tests) in
    let same : (a + j) % 2 ^ 32 ≡ x = omega arith in
    h j hj (sym same ∙ sym (laws.along l o d a j q))

-- ---- stores

few-bytes : (o : Op) (b : ℕ) → length (bytes_from (width_of o) b) ≤ width_of o
few-bytes o b = length-take_le (width_of o) (byte 0 b ∷ byte 1 b ∷ byte 2 b ∷ byte 3 b ∷ [])

keeps_store : (input : List ℕ) (x : ℕ) (f : Flat) (o : Op) (b a : ℕ) → (a % width_of o ≡ 0 → Misses x a (width_of o)) → Keeps input x f (store f.guest.core o b a)
keeps_store input x f o b a h =
    two_ways (not (nat_eq (a % width_of o) 0)) (λ t. Keeps input x f (cond t (flat.Faults fault.StoreAlign a) (cond (can_write f.guest.core.memory a (width_of o)) (flat.Goes (record (passed f.guest.core) { memory = with_bytes f.guest.core.memory a (bytes_from (width_of o) b) })) (flat.Faults fault.Store a))))
    (λ e. refl)
    (λ e. choose input x f (can_write f.guest.core.memory a (width_of o)) (flat.Goes (record (passed f.guest.core) { memory = with_bytes f.guest.core.memory a (bytes_from (width_of o) b) })) (flat.Faults fault.Store a) (λ c. missed f.guest.core.memory a (bytes_from (width_of o) b) (width_of o) x (few-bytes o b) (h (aligned-from (a % width_of o) e))) refl)

-- an aligned store outside of the heap region meets no address in it
beside : (x a w : ℕ) → IsWide w → in_region a ≡ false → in_region x ≡ true → a % w ≡ 0 → Misses x a w
beside x a w wide r s e j hj q = go wide (above s) (outside r)
  where
    above : in_region x ≡ true → (2 ^ 30 ≤ x) × (x < 2 ^ 31)
    above s = (grind (arith, nat_tests), grind (arith, nat_tests))

    outside : in_region a ≡ false → (a < 2 ^ 30) ⊎ (2 ^ 31 ≤ a)
    outside r = grind (arith, nat_tests)

    go : IsWide w → (2 ^ 30 ≤ x) × (x < 2 ^ 31) → (a < 2 ^ 30) ⊎ (2 ^ 31 ≤ a) → ⊥
    go k m (inr n) = omega (arith, m.1)
    go (inl t) m (inl n) = omega (arith, m.0)
    go (inr (inl t)) m (inl n) = let u : a % 2 ≡ 0 = rw t at e in omega (arith, m.0)
    go (inr (inr t)) m (inl n) = let u : a % 4 ≡ 0 = rw t at e in omega (arith, m.0)

store_leaves : Facts → (l : Layout) → IsLayout l → (p : Mapping) (input : List ℕ) (x : ℕ) → in_region x ≡ true → (s : InfState) (f : Flat) → (o : Op) → IsTrue (is_store_op o) → (v : Value) (b : ℕ) (y : Value) (a : ℕ) → Stands l y a
    → Leaves l input x f (inf_store p s o v y) (store f.guest.core o b a)
store_leaves laws l il p input x rx s f o ho v b (Num n) a stands =
    test l input x f (in_region n) _ _ (store f.guest.core o b a) (λ r c u. absurd c) (λ r c u. keeps_store input x f o b a (beside x a (width_of o) (store-wide o ho) (ap in_region stands ∙ r) rx))
store_leaves laws l il p input x rx s f o ho v b (Ptr i d) a q =
    let same : a % width_of o ≡ d % width_of o = place-aligned laws l il.aligned i d a (width_of o) (store-wide o ho) q in
    test l input x f (not (nat_eq (d % width_of o) 0)) _ _ (store f.guest.core o b a)
    (λ r c u. keeps_store input x f o b a (λ z. absurd (clash r (ap (λ (k : ℕ). not (nat_eq k 0)) (sym same ∙ z)))))
    (λ r c u. keeps_store input x f o b a (λ z. behind laws l i d a x (width_of o) q rx (λ j hj is. u.0 (record { stores = refl; byte = j; within = hj; is = is }))))
store_leaves laws l il p input x rx s f o ho v b (Mix c d e g) a q = λ z u. absurd z
store_leaves laws l il p input x rx s f o ho v b (Low c) a q = λ z u. absurd z

-- ---- reads

-- the read of a span that may be written to
abbrev reads_in : Flat → (a len : ℕ) → Next
reads_in f a len = cond (is_lawful f.guest.core.memory a len true) (flat.Reads a len) (answers f.guest.core bad_span)

keeps_read : (input : List ℕ) (x : ℕ) (f : Flat) (a len : ℕ) → Misses x a len → Keeps input x f (flat.Reads a len)
keeps_read input x f a len h = missed f.guest.core.memory a (taken input f.place len) len x (length-take_le len (drop f.place input)) h

keeps_lawful : (input : List ℕ) (x : ℕ) (f : Flat) (a len : ℕ) → Misses x a len → Keeps input x f (reads_in f a len)
keeps_lawful input x f a len h = choose input x f (is_lawful f.guest.core.memory a len true) (flat.Reads a len) (answers f.guest.core bad_span) (λ e. keeps_read input x f a len h) refl

-- a span that avoids the heap region meets no address in it
avoided : (x a len : ℕ) → not (avoids_heap a len) ≡ false → in_region x ≡ true → Misses x a len
avoided x a len e r j hj q = grind (arith, nat_tests)

read_at_leaves : Facts → (l : Layout) (p : Mapping) (input : List ℕ) (x : ℕ) → in_region x ≡ true → (s : InfState) (f : Flat) (v : Value) (a len : ℕ) → Stands l v a
    → Leaves l input x f (inf_read_at p input s v len) (reads_in f a len)
read_at_leaves laws l p input x rx s f (Num k) a len stands =
    test l input x f (not (avoids_heap k len)) _ _ (reads_in f a len) (λ r c u. absurd c) (λ r c u. keeps_lawful input x f a len (avoided x a len (ap (λ (n : ℕ). not (avoids_heap n len)) stands ∙ r) rx))
read_at_leaves laws l p input x rx s f (Ptr o d) a len q = λ c u. keeps_lawful input x f a len (behind laws l o d a x len q rx (λ j hj is. u.0 (record { stores = refl; byte = j; within = hj; is = is })))
read_at_leaves laws l p input x rx s f (Mix b c d e) a len q = λ z u. absurd z
read_at_leaves laws l p input x rx s f (Low b) a len q = λ z u. absurd z

-- a length that isn't a number
unread : (l : Layout) (input : List ℕ) (x : ℕ) (s : InfState) (f : Flat) (fd : ℕ) (i : InfStep) (n : Next) → Leaves l input x f (cond (nat_eq fd 0) (inf.Blurs why.Operand []) i) (cond (not (nat_eq fd 0)) (answers f.guest.core bad_descriptor) n)
unread l input x s f fd i n = two_ways (nat_eq fd 0) (λ b. Leaves l input x f (cond b (inf.Blurs why.Operand []) i) (cond (not b) (answers f.guest.core bad_descriptor) n)) (λ e c u. absurd c) (λ e c u. refl)

read_leaves : Facts → (l : Layout) (p : Mapping) (input : List ℕ) (x : ℕ) → in_region x ≡ true → (s : InfState) (f : Flat) (fd : ℕ) (v w : Value) (a len : ℕ) → Stands l v a → Stands l w len
    → Leaves l input x f (inf_read_from p input s fd v w) (read_call f.guest.core fd a len)
read_leaves laws l p input x rx s f fd v (Num n) a len stands is =
    subst (λ (k : ℕ). Leaves l input x f (inf_read_from p input s fd v (Num k)) (read_call f.guest.core fd a len)) is
    (two_ways (not (nat_eq fd 0)) (λ b. Leaves l input x f (cond b (inf_answers s bad_descriptor) (cond (nat_eq len 0) (inf_answers s 0) (inf_read_at p input s v len))) (cond b (answers f.guest.core bad_descriptor) (cond (nat_eq len 0) (answers f.guest.core 0) (reads_in f a len))))
    (λ e c u. refl)
    (λ e. two_ways (nat_eq len 0) (λ b. Leaves l input x f (cond b (inf_answers s 0) (inf_read_at p input s v len)) (cond b (answers f.guest.core 0) (reads_in f a len)))
    (λ z c u. refl)
    (λ z. read_at_leaves laws l p input x rx s f v a len stands)))
read_leaves laws l p input x rx s f fd v (Ptr o d) a len stands is = unread l input x s f fd (inf_answers s bad_descriptor) (cond (nat_eq len 0) (answers f.guest.core 0) (reads_in f a len))
read_leaves laws l p input x rx s f fd v (Mix b c d e) a len stands is = unread l input x s f fd (inf_answers s bad_descriptor) (cond (nat_eq len 0) (answers f.guest.core 0) (reads_in f a len))
read_leaves laws l p input x rx s f fd v (Low b) a len stands is = unread l input x s f fd (inf_answers s bad_descriptor) (cond (nat_eq len 0) (answers f.guest.core 0) (reads_in f a len))

-- ---- which call

keeps_prints : (input : List ℕ) (x : ℕ) (f : Flat) (fd a len : ℕ) (o : Option (List ℕ)) → Keeps input x f (prints f.guest.core fd a len o)
keeps_prints input x f fd a len None = refl
keeps_prints input x f fd a len (Some bytes) = refl

abbrev writes_out : Flat → (fd a len : ℕ) → Next
writes_out f fd a len = cond (is_lawful f.guest.core.memory a len false) (prints f.guest.core fd a len (span f.guest.core.memory.bytes a len)) (answers f.guest.core bad_span)

keeps_write : (input : List ℕ) (x : ℕ) (f : Flat) (fd a len : ℕ) → Keeps input x f (write_call f.guest.core fd a len)
keeps_write input x f fd a len =
    choose input x f (not (is_printed fd)) (answers f.guest.core bad_descriptor) (cond (nat_eq len 0) (answers f.guest.core 0) (writes_out f fd a len)) (λ e. refl)
    (choose input x f (nat_eq len 0) (answers f.guest.core 0) (writes_out f fd a len) (λ e. refl)
    (choose input x f (is_lawful f.guest.core.memory a len false) (prints f.guest.core fd a len (span f.guest.core.memory.bytes a len)) (answers f.guest.core bad_span) (λ e. keeps_prints input x f fd a len (span f.guest.core.memory.bytes a len)) refl))

by_call : (l : Layout) (input : List ℕ) (x : ℕ) (f : Flat) (e r w : Bool) (i j k n : InfStep) (a b c d : Next) → Keeps input x f a → Leaves l input x f j b → Keeps input x f c → Keeps input x f d
    → Leaves l input x f (cond (e || (r || w)) (cond e i (cond r j k)) n) (cond e a (cond r b (cond w c d)))
by_call l input x f true r w i j k n a b c d ka lb kc kd = λ z u. ka
by_call l input x f false true w i j k n a b c d ka lb kc kd = lb
by_call l input x f false false true i j k n a b c d ka lb kc kd = λ z u. kc
by_call l input x f false false false i j k n a b c d ka lb kc kd = λ z u. kd

uncalled : (l : Layout) (input : List ℕ) (x : ℕ) (f : Flat) (e r w : Bool) (n : InfStep) (a b c d : Next) → Keeps input x f d
    → Leaves l input x f (cond (e || (r || w)) (inf.Blurs why.Operand []) n) (cond e a (cond r b (cond w c d)))
uncalled l input x f true r w n a b c d kd = λ z u. absurd z
uncalled l input x f false true w n a b c d kd = λ z u. absurd z
uncalled l input x f false false true n a b c d kd = λ z u. absurd z
uncalled l input x f false false false n a b c d kd = λ z u. kd

abbrev reads : Flat → (a0 : ℕ) → Next
reads f a0 = read_call f.guest.core a0 (register f.guest.core 11) (register f.guest.core 12)

abbrev writes : Flat → (a0 : ℕ) → Next
writes f a0 = write_call f.guest.core a0 (register f.guest.core 11) (register f.guest.core 12)

served : Facts → (l : Layout) (p : Mapping) (input : List ℕ) (x : ℕ) → in_region x ≡ true → (s : InfState) (f : Flat) → StateMatches l p s f.guest.core → (a7 : ℕ) (v : Value) (a0 : ℕ) → Stands l v a0
    → Leaves l input x f (cond (is_exit a7 || (is_read a7 || is_write a7)) (inf_served p input s a7 v) (inf_answers s no_call))
    (cond (is_exit a7) (flat.Exits (a0 % 256) (exited f.guest.core (a0 % 256))) (cond (is_read a7) (reads f a0) (cond (is_write a7) (writes f a0) (answers f.guest.core no_call))))
served laws l p input x rx s f m a7 (Num n) a0 is =
    by_call l input x f (is_exit a7) (is_read a7) (is_write a7) _ _ _ _ (flat.Exits (a0 % 256) (exited f.guest.core (a0 % 256))) (reads f a0) (writes f a0) (answers f.guest.core no_call) refl
    (subst (λ (k : ℕ). Leaves l input x f (inf_read_from p input s k (s.regs 11) (s.regs 12)) (reads f a0)) is
    (read_leaves laws l p input x rx s f a0 (s.regs 11) (s.regs 12) (register f.guest.core 11) (register f.guest.core 12) (m.regs 11 (omega arith)) (m.regs 12 (omega arith))))
    (keeps_write input x f a0 (register f.guest.core 11) (register f.guest.core 12)) refl
served laws l p input x rx s f m a7 (Ptr o d) a0 is = uncalled l input x f (is_exit a7) (is_read a7) (is_write a7) (inf_answers s no_call) (flat.Exits (a0 % 256) (exited f.guest.core (a0 % 256))) (reads f a0) (writes f a0) (answers f.guest.core no_call) refl
served laws l p input x rx s f m a7 (Mix b c d e) a0 is = uncalled l input x f (is_exit a7) (is_read a7) (is_write a7) (inf_answers s no_call) (flat.Exits (a0 % 256) (exited f.guest.core (a0 % 256))) (reads f a0) (writes f a0) (answers f.guest.core no_call) refl
served laws l p input x rx s f m a7 (Low b) a0 is = uncalled l input x f (is_exit a7) (is_read a7) (is_write a7) (inf_answers s no_call) (flat.Exits (a0 % 256) (exited f.guest.core (a0 % 256))) (reads f a0) (writes f a0) (answers f.guest.core no_call) refl

ecall_leaves : Facts → (l : Layout) (p : Mapping) (input : List ℕ) (x : ℕ) → in_region x ≡ true → (s : InfState) (f : Flat) → StateMatches l p s f.guest.core → (v : Value) (a7 : ℕ) → Stands l v a7
    → Leaves l input x f (inf_ecall p input s v) (ecall f.guest.core a7)
ecall_leaves laws l p input x rx s f m (Num n) a7 is =
    subst (λ (k : ℕ). Leaves l input x f (inf_ecall p input s (Num k)) (ecall f.guest.core a7)) is
    (served laws l p input x rx s f m a7 (s.regs 10) (register f.guest.core 10) (m.regs 10 (omega arith)))
ecall_leaves laws l p input x rx s f m (Ptr o d) a7 is = λ z u. absurd z
ecall_leaves laws l p input x rx s f m (Mix b c d e) a7 is = λ z u. absurd z
ecall_leaves laws l p input x rx s f m (Low b) a7 is = λ z u. absurd z

-- ---- one instruction

keeps_jump : (input : List ℕ) (x : ℕ) (f : Flat) (to : Core) (target : ℕ) → to.memory ≡ f.guest.core.memory → Keeps input x f (jumped to target)
keeps_jump input x f to target e = choose input x f (nat_eq (target % 4) 0) (flat.Goes (record to { pc = target; steps = to.steps + 1 })) (flat.Faults fault.Jump target) (λ t. ap (λ (m : Memory). m.bytes x) e) refl

keeps_load : (input : List ℕ) (x : ℕ) (f : Flat) (o : Op) (rd a : ℕ) (found : Option (List ℕ)) → Keeps input x f (loaded_from f.guest.core o rd a found)
keeps_load input x f o rd a None = refl
keeps_load input x f o rd a (Some bytes) = refl

keeps_operate : (input : List ℕ) (x : ℕ) (f : Flat) (rd : ℕ) (o : Option Operation) (a b : ℕ) → Keeps input x f (operate f.guest.core rd o a b)
keeps_operate input x f rd None a b = refl
keeps_operate input x f rd (Some o) a b = refl

system_leaves : Facts → (l : Layout) (p : Mapping) (input : List ℕ) (x : ℕ) → in_region x ≡ true → (s : InfState) (f : Flat) → StateMatches l p s f.guest.core → (o : Op) → Leaves l input x f (inf_system p input s o) (system f.guest.core o)
system_leaves laws l p input x rx s f m op.Ecall = ecall_leaves laws l p input x rx s f m (s.regs 17) (register f.guest.core 17) (m.regs 17 (omega arith))
system_leaves laws l p input x rx s f m op.Ebreak = λ c u. refl
system_leaves laws l p input x rx s f m op.Fence = λ c u. refl
system_leaves laws l p input x rx s f m op.FenceI = λ c u. refl
system_leaves laws l p input x rx s f m _ = λ c u. refl

do_leaves : Facts → (l : Layout) → IsLayout l → (p : Mapping) (input : List ℕ) (x : ℕ) → in_region x ≡ true → (s : InfState) (f : Flat) → StateMatches l p s f.guest.core → (i : Instr) → IsInRange i → Leaves l input x f (inf_do p input s i) (executed f.guest.core i)
do_leaves laws l il p input x rx s f m (instr.Alu o rd rs1 rs2) r = λ c u. keeps_operate input x f rd (operation_of o) (register f.guest.core rs1) (register f.guest.core rs2)
do_leaves laws l il p input x rx s f m (instr.AluImm o rd rs1 imm) r = λ c u. keeps_operate input x f rd (operation_of o) (register f.guest.core rs1) (imm_word imm)
do_leaves laws l il p input x rx s f m (instr.Lui rd top) r = λ c u. refl
do_leaves laws l il p input x rx s f m (instr.Auipc rd top) r = λ c u. refl
do_leaves laws l il p input x rx s f m (instr.Jal rd imm) r =
    λ c u. keeps_jump input x f (record f.guest.core { regs = with_register f.guest.core.regs rd (after f.guest.core.pc); calls = after_jal rd (after f.guest.core.pc) f.guest.core.calls }) ((f.guest.core.pc + imm_word imm) % 2 ^ 32) refl
do_leaves laws l il p input x rx s f m (instr.Jalr rd rs1 imm) r =
    λ c u. keeps_jump input x f (record f.guest.core { regs = with_register f.guest.core.regs rd (after f.guest.core.pc); calls = after_jalr rd rs1 (after f.guest.core.pc) f.guest.core.calls }) (alu Add (register f.guest.core rs1) (imm_word imm) / 2 * 2) refl
do_leaves laws l il p input x rx s f m (instr.Branch o rs1 rs2 imm) r =
    let target : ℕ = (f.guest.core.pc + imm_word imm) % 2 ^ 32 in
    λ c u. choose input x f (holds o (register f.guest.core rs1) (register f.guest.core rs2)) (jumped f.guest.core target) (flat.Goes (passed f.guest.core)) (λ e. keeps_jump input x f f.guest.core target refl) refl
do_leaves laws l il p input x rx s f m (instr.Load o rd rs1 imm) r =
    let a : ℕ = alu Add (register f.guest.core rs1) (imm_word imm) in
    let found : Option (List ℕ) = span f.guest.core.memory.bytes a (width_of o) in
    λ c u. choose input x f (not (nat_eq (a % width_of o) 0)) (flat.Faults fault.LoadAlign a) (loaded_from f.guest.core o rd a found) (λ e. refl) (keeps_load input x f o rd a found)
do_leaves laws l il p input x rx s f m (instr.Store o rs1 rs2 imm) (named, h1, h2, within) =
    let w : imm_word imm < 2 ^ 32 = imm-fits imm 2048 within.1 (omega arith) in
    store_leaves laws l il p input x rx s f o named (s.regs rs2) (register f.guest.core rs2) (lift (alignment_in s.objects) Add (s.regs rs1) (Num (imm_word imm))) (alu Add (register f.guest.core rs1) (imm_word imm))
    (laws.lift l il.aligned (alignment_in s.objects) m.aligned Add (s.regs rs1) (Num (imm_word imm)) (register f.guest.core rs1) (imm_word imm) (m.fits rs1 h1) w (m.regs rs1 h1) refl)
do_leaves laws l il p input x rx s f m (instr.System o) named = system_leaves laws l p input x rx s f m o

pub stores_are_recorded : Facts → StoresAreRecorded
stores_are_recorded laws l il p out input names zeroed s f m live none c x rx u =
    step_holds laws l p out input names zeroed s f.guest.core m live none (Leaves l input x f) (record {
      blurs = λ why n z t. absurd z;
      faults = λ kind address z t. refl;
      does = do_leaves laws l il p input x rx s f m;
    }) c u
