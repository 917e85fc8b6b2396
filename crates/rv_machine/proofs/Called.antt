-- System calls of the two machines match.
use Rattle.std.proofs.Common.{◌≡◌, ℕ, zero, suc, ◌+◌, ◌-◌, ◌%◌, ◌^◌, ◌<◌, ◌≤◌, refl, ap, sym, ◌∙◌, subst, Bool, true, false, cond, not, ◌&&◌, ◌||◌, ◌⊎◌, inl, inr, arith, nat_eq, nat_le, List, [], ◌∷◌, length, take, drop, Option, None, Some, is_some}
use Rattle.std.specs.Prelude.{All, IfSome}
use Rattle.std.proofs.lemmas.Bool.Decides.{nat_tests}
use Rattle.infinite_heap.specs.declared.access.Record.{Record}
use Rattle.infinite_heap.specs.declared.access.AccessKind.TheVariants as kind
use Rattle.infinite_heap.specs.declared.fault.Why.TheVariants as why
use Rattle.infinite_heap.specs.declared.value.Cell.{Cell}
use Rattle.infinite_heap.specs.declared.value.Cell.TheVariants.{Byte, Part, Unset}
use Rattle.infinite_heap.specs.declared.value.Value.{Value}
use Rattle.infinite_heap.specs.declared.value.Value.TheVariants.{Num, Ptr, Mix, Low}
use Rattle.infinite_heap.specs.InfiniteState as inf
use Rattle.infinite_heap.specs.InfiniteState.{InfState, InfStep, cells_of_state, access, inf_next}
use Rattle.infinite_heap.specs.InfiniteSystem.{bad_descriptor, bad_span, no_call, is_read, is_write, is_exit, all_in, avoids_heap, is_span, inf_answers, taken, as_cells, inf_read, inf_read_at, inf_read_from, with_number, numbers_of, inf_prints, inf_write_at, is_printed, inf_write_to, inf_served, inf_ecall}
use Rattle.infinite_heap.specs.Layout.{Layout, IsLayout, IsIn, Stands, CellStands, AllStand, none, more, IsHarmlessByte, IsHarmlessStore, IsHarmlessUse, AllHarmless}
use Rattle.infinite_heap.specs.Mapped.{Mapping}
use Rattle.infinite_heap.specs.Memory.{get_all, store_all}
use Rattle.infinite_heap.specs.Objects.{begins_in}
use Rattle.infinite_heap.specs.Region.{in_region}
use Rattle.rv_memory.specs.Memory.{span, with_bytes, can_write, is_mapped, is_lawful}
use Rattle.rv_memory.specs.Laws.{from_each, at_each}
use Rattle.rv_machine.specs.Core as flat
use Rattle.rv_machine.specs.Core.{Core, Next, register, stepped, exited, filled}
use Rattle.rv_machine.specs.Matches.{StateMatches, StepMatches, bytes_in}
use Rattle.rv_machine.specs.Steps.{answers, read_call, prints, write_call, ecall}
use Rattle.rv_machine.proofs.Spanned.{two_ways, all_in-same, span-all}
use Rattle.rv_machine.proofs.Kept.{maps-written, matches-written}
use Rattle.rv_machine.proofs.Stepped.{both_test, inf_test, harmless_first, next_matches, put_in, spot, from_spot, in_slot-mapped, harmless-low, harmless-writable}
use Rattle.rv_machine.specs.Facts.{Facts}
use Rattle.rv_machine.proofs.Loaded.{stored_flat}

answer_matches : (l : Layout) (p : Mapping) (input : List ℕ) (s : InfState) (t : Core) → StateMatches l p s t → (n : ℕ) → n < 2 ^ 32 → StepMatches l p input s t (inf_answers s n) (answers t n)
answer_matches l p input s t m n h = λ u. (next_matches l p s t m 10 (Num n) n (omega arith) refl h, refl, refl)

-- ---- bytes of the input

pub all-drop : (P : ℕ → Type 0) (n : ℕ) (xs : List ℕ) → All P xs → All P (drop n xs)
all-drop P zero xs h = h
all-drop P (suc n) [] h = h
all-drop P (suc n) (x ∷ xs) h = all-drop P n xs (λ k d hk. h (suc k) d (omega arith))

pub all-take : (P : ℕ → Type 0) (n : ℕ) (xs : List ℕ) → All P xs → All P (take n xs)
all-take P zero xs h k d hk = absurd (omega arith)
all-take P (suc n) [] h k d hk = absurd (omega arith)
all-take P (suc n) (x ∷ xs) h zero d hk = h 0 d (omega arith)
all-take P (suc n) (x ∷ xs) h (suc k) d hk = all-take P n xs (λ j e hj. h (suc j) e (omega arith)) k d (omega arith)

pub length-take_le : (n : ℕ) (xs : List ℕ) → length (take n xs) ≤ n
length-take_le zero xs = omega arith
length-take_le (suc n) [] = omega arith
length-take_le (suc n) (x ∷ xs) = omega (arith, length-take_le n xs)

-- ---- spans

outside-span : (k len : ℕ) → not (avoids_heap k len) ≡ false → (y : ℕ) → k ≤ y → y < k + len → in_region y ≡ false
outside-span k len e y low high = grind (arith, nat_tests)

ends-of : (k len : ℕ) (b : Bool) → nat_le (k + len) (2 ^ 32) && b ≡ true → (k + len ≤ 2 ^ 32) × (b ≡ true)
ends-of k len true e = (grind (arith, nat_tests), refl)
ends-of k len false e = absurd (go (nat_le (k + len) (2 ^ 32)) e)
  where
    go : (c : Bool) → c && false ≡ true → ⊥
    go true q = cc
    go false q = cc

lawful-of : (k len : ℕ) (b : Bool) → k + len ≤ 2 ^ 32 → b ≡ true → nat_le (k + len) (2 ^ 32) && b ≡ true
lawful-of k len b h e = subst (λ (c : Bool). nat_le (k + len) (2 ^ 32) && c ≡ true) (sym e) (grind (arith, nat_tests))

-- bytes at harmless places don't wrap
unwrapped : (a len : ℕ) → a < 2 ^ 32 → ((j : ℕ) → j < len → 2 ^ 30 ≤ (a + j) % 2 ^ 32) → a + len ≤ 2 ^ 32
unwrapped a len h each = go (split (a + len) (2 ^ 32))
  where
    split : (x y : ℕ) → (x ≤ y) ⊎ (y < x)
    split x y = grind arith

    go : (a + len ≤ 2 ^ 32) ⊎ (2 ^ 32 < a + len) → a + len ≤ 2 ^ 32
    go (inl k) = k
    go (inr k) = let w : 2 ^ 30 ≤ (a + (2 ^ 32 - a)) % 2 ^ 32 = each (2 ^ 32 - a) (omega arith) in absurd (omega arith)

-- ---- reading

read_at_matches : Facts → (l : Layout) → IsLayout l → (p : Mapping) (input : List ℕ) → All (λ b. b < 256) input → (s : InfState) (t : Core) → StateMatches l p s t → (v : Value) (a len : ℕ) → a < 2 ^ 32 → len < 2 ^ 32 → Stands l v a
    → StepMatches l p input s t (inf_read_at p input s v len) (cond (is_lawful t.memory a len true) (flat.Reads a len) (answers t bad_span))
read_at_matches laws l il p input all s t m (Num k) a len ha hl stands =
    subst (λ (x : ℕ). StepMatches l p input s t (inf_read_at p input s (Num k) len) (cond (is_lawful t.memory x len true) (flat.Reads x len) (answers t bad_span))) (sym stands)
    (inf_test l p input s t (not (avoids_heap k len)) _ _ _ (λ r. tt) (λ r.
    let far : (y : ℕ) → k ≤ y → y < k + len → in_region y ≡ false = outside-span k len r in
    let alike : all_in p.writable k len ≡ can_write t.memory k len = all_in-same p.writable t.memory.writable k len (λ x low high. sym (m.maps.writable x (far x low high))) in
    both_test l p input s t (is_span p.writable k len) (is_lawful t.memory k len true) _ _ _ _ (ap (λ (b : Bool). nat_le (k + len) (2 ^ 32) && b) alike)
    (λ y. λ u. let h = ends-of k len (all_in p.writable k len) y in
    let bytes : List ℕ = taken input s.place len in
    let fewer : length bytes ≤ len = length-take_le len (drop s.place input) in
    let small : All (λ b. b < 256) bytes = all-take (λ b. b < 256) len (drop s.place input) (all-drop (λ b. b < 256) s.place input all) in
    let stood : AllStand l (as_cells bytes) bytes = laws.numbers l bytes small in
    let fits : k < 2 ^ 32 = omega arith in (
      put_in l p (inf_next s 10 (Num (length bytes))) _ (stepped t 10 (length bytes)) (with_bytes t.memory k bytes) (next_matches l p s t m 10 (Num (length bytes)) (length bytes) (omega arith) refl (omega arith)) refl refl refl refl refl
          (maps-written l p t.memory k bytes m.maps (from_each t.memory.writable k (length bytes) (λ x low high. at_each t.memory.writable k len x (sym alike ∙ h.1) low (omega arith))) small)
          (matches-written l _ t.memory k bytes (omega (arith, h.0))
          (stored_flat laws l il (cells_of_state s) (bytes_in t.memory) m.memory k stood (λ j hj. spot k len (λ x. in_region x ≡ false) h.0 far j (omega arith)) fits)),
      refl,
      refl,
    ))
    (λ y. answer_matches l p input s t m bad_span (omega arith))))
read_at_matches laws l il p input all s t m (Ptr o d) a len ha hl q =
    harmless_first l p input s t (inf.Reads len (record (inf_read s (taken input s.place len)) { written = store_all s.written o d (as_cells (taken input s.place len)) }) (access s kind.Store o d len ∷ [])) _ (λ u.
    let harmless : IsHarmlessStore l o d len = u.0 in
    let each : (j : ℕ) → j < len → IsHarmlessByte l o ((a + j) % 2 ^ 32) = λ j hj. subst (IsHarmlessByte l o) (laws.along l o d a j q) (harmless j hj) in
    let ends : a + len ≤ 2 ^ 32 = unwrapped a len ha (λ j hj. harmless-low l il o ((a + j) % 2 ^ 32) (each j hj)) in
    let can : can_write t.memory a len ≡ true = from_each t.memory.writable a len (from_spot a len (λ x. t.memory.writable x ≡ true) ends (λ j hj. harmless-writable laws l il p t.memory m.maps o ((a + j) % 2 ^ 32) (each j hj))) in
    let bytes : List ℕ = taken input s.place len in
    let fewer : length bytes ≤ len = length-take_le len (drop s.place input) in
    let small : All (λ b. b < 256) bytes = all-take (λ b. b < 256) len (drop s.place input) (all-drop (λ b. b < 256) s.place input all) in
    let stood : AllStand l (as_cells bytes) bytes = laws.numbers l bytes small in
    subst (λ (b : Bool). StepMatches l p input s t (inf.Reads len (record (inf_read s bytes) { written = store_all s.written o d (as_cells bytes) }) (access s kind.Store o d len ∷ [])) (cond b (flat.Reads a len) (answers t bad_span))) (sym (lawful-of a len (can_write t.memory a len) ends can))
    (λ w. (
      put_in l p (inf_next s 10 (Num (length bytes))) _ (stepped t 10 (length bytes)) (with_bytes t.memory a bytes) (next_matches l p s t m 10 (Num (length bytes)) (length bytes) (omega arith) refl (omega arith)) refl refl refl refl refl
          (maps-written l p t.memory a bytes m.maps (from_each t.memory.writable a (length bytes) (λ x low high. at_each t.memory.writable a len x can low (omega arith))) small)
          (matches-written l _ t.memory a bytes (omega arith)
          (laws.pointer_stores l il s.flat (begins_in s.objects) (λ offset. true) s.written (bytes_in t.memory) m.memory o d a q (as_cells bytes) bytes stood (λ j hj. harmless j (omega arith)))),
      refl,
      refl,
    )))
read_at_matches laws l il p input all s t m (Mix b c d e) a len ha hl q = tt
read_at_matches laws l il p input all s t m (Low b) a len ha hl q = tt

-- a length that isn't a number
unread : (l : Layout) (p : Mapping) (input : List ℕ) (s : InfState) (t : Core) → StateMatches l p s t → (fd : ℕ) (f : Next) → StepMatches l p input s t (cond (nat_eq fd 0) (inf.Blurs why.Operand []) (inf_answers s bad_descriptor)) (cond (not (nat_eq fd 0)) (answers t bad_descriptor) f)
unread l p input s t m fd f = two_ways (nat_eq fd 0) (λ b. StepMatches l p input s t (cond b (inf.Blurs why.Operand []) (inf_answers s bad_descriptor)) (cond (not b) (answers t bad_descriptor) f)) (λ e. tt) (λ e. answer_matches l p input s t m bad_descriptor (omega arith))

read_matches : Facts → (l : Layout) → IsLayout l → (p : Mapping) (input : List ℕ) → All (λ b. b < 256) input → (s : InfState) (t : Core) → StateMatches l p s t → (fd : ℕ) (v w : Value) (a len : ℕ) → a < 2 ^ 32 → len < 2 ^ 32 → Stands l v a → Stands l w len
    → StepMatches l p input s t (inf_read_from p input s fd v w) (read_call t fd a len)
read_matches laws l il p input all s t m fd v (Num n) a len ha hl stands is =
    subst (λ (x : ℕ). StepMatches l p input s t (inf_read_from p input s fd v (Num x)) (read_call t fd a len)) is
    (both_test l p input s t (not (nat_eq fd 0)) (not (nat_eq fd 0)) _ _ _ _ refl (λ y. answer_matches l p input s t m bad_descriptor (omega arith)) (λ y.
    both_test l p input s t (nat_eq len 0) (nat_eq len 0) _ _ _ _ refl (λ z. answer_matches l p input s t m 0 (omega arith)) (λ z. read_at_matches laws l il p input all s t m v a len ha hl stands)))
read_matches laws l il p input all s t m fd v (Ptr o d) a len ha hl stands is = unread l p input s t m fd _
read_matches laws l il p input all s t m fd v (Mix b c d e) a len ha hl stands is = unread l p input s t m fd _
read_matches laws l il p input all s t m fd v (Low b) a len ha hl stands is = unread l p input s t m fd _

-- ---- writing

-- the numbers of cells, where each is one, are the bytes
numbered : (l : Layout) {cs : List Cell} {bs : List ℕ} → AllStand l cs bs → IfSome (numbers_of cs) (λ ns. bs ≡ ns)
numbered l none = refl
numbered l (more {c} {b} {cs} {bs} hb stands a) = go c (numbers_of cs) stands (numbered l a)
  where
    go : (c : Cell) (o : Option (List ℕ)) → CellStands l c b → IfSome o (λ ns. bs ≡ ns) → IfSome (with_number c o) (λ ns. b ∷ bs ≡ ns)
    go (Byte n) (Some ns) e q = rw (e, q) refl
    go (Byte n) None e q = tt
    go (Part o d k) (Some ns) e q = tt
    go (Part o d k) None e q = tt
    go Unset (Some ns) e q = tt
    go Unset None e q = tt

printed : (l : Layout) (p : Mapping) (input : List ℕ) (s : InfState) (t : Core) → StateMatches l p s t → (fd a len : ℕ) → len < 2 ^ 32 → (o : Option (List ℕ)) (bs : List ℕ) → IfSome o (λ ns. bs ≡ ns) → (records : List Record)
    → StepMatches l p input s t (inf_prints s fd len o records) (flat.Prints fd a len bs (stepped t 10 len))
printed l p input s t m fd a len hl (Some ns) bs same records = λ u. (next_matches l p s t m 10 (Num len) len (omega arith) refl hl, refl, same, refl, refl)
printed l p input s t m fd a len hl None bs same records = tt

write_at_matches : Facts → (l : Layout) → IsLayout l → (p : Mapping) (input : List ℕ) (s : InfState) (t : Core) → StateMatches l p s t → (fd : ℕ) (v : Value) (a len : ℕ) → a < 2 ^ 32 → len < 2 ^ 32 → Stands l v a
    → StepMatches l p input s t (inf_write_at p s fd v len) (cond (is_lawful t.memory a len false) (prints t fd a len (span t.memory.bytes a len)) (answers t bad_span))
write_at_matches laws l il p input s t m fd (Num k) a len ha hl stands =
    subst (λ (x : ℕ). StepMatches l p input s t (inf_write_at p s fd (Num k) len) (cond (is_lawful t.memory x len false) (prints t fd x len (span t.memory.bytes x len)) (answers t bad_span))) (sym stands)
    (inf_test l p input s t (not (avoids_heap k len)) _ _ _ (λ r. tt) (λ r.
    let far : (y : ℕ) → k ≤ y → y < k + len → in_region y ≡ false = outside-span k len r in
    let alike : all_in p.mapped k len ≡ is_mapped t.memory k len = all_in-same p.mapped (λ x. is_some (t.memory.bytes x)) k len (λ x low high. sym (m.maps.mapped x (far x low high))) in
    both_test l p input s t (is_span p.mapped k len) (is_lawful t.memory k len false) _ _ _ _ (ap (λ (b : Bool). nat_le (k + len) (2 ^ 32) && b) alike)
    (λ y. let h = ends-of k len (all_in p.mapped k len) y in
    let fits : k < 2 ^ 32 = omega arith in
    let whole : span t.memory.bytes k len ≡ Some (get_all (bytes_in t.memory) k len) = span-all t.memory.bytes k len h.0 (λ x low high. at_each (λ z. is_some (t.memory.bytes z)) k len x (sym alike ∙ h.1) low high) in
    subst (λ (found : Option (List ℕ)). StepMatches l p input s t (inf_prints s fd len (numbers_of (get_all s.flat k len)) []) (prints t fd k len found)) (sym whole)
    (printed l p input s t m fd k len hl (numbers_of (get_all s.flat k len)) (get_all (bytes_in t.memory) k len)
    (numbered l (laws.outside_loads l (cells_of_state s) (bytes_in t.memory) m.memory k len fits (spot k len (λ x. in_region x ≡ false) h.0 far))) []))
    (λ y. answer_matches l p input s t m bad_span (omega arith))))
write_at_matches laws l il p input s t m fd (Ptr o d) a len ha hl q = under (numbers_of (get_all ((cells_of_state s).heap o) d len)) refl
  where
    records : List Record
    records = access s kind.Load o d len ∷ []

    lawful : AllHarmless l records → (ns : Option (List ℕ)) → numbers_of (get_all ((cells_of_state s).heap o) d len) ≡ ns → StepMatches l p input s t (inf_prints s fd len ns records) (cond (is_lawful t.memory a len false) (prints t fd a len (span t.memory.bytes a len)) (answers t bad_span))
    lawful u ns is =
        let held : IsHarmlessUse l o d len = u.0 in
        let each : (j : ℕ) → j < len → IsIn l o ((a + j) % 2 ^ 32) = λ j hj. subst (IsIn l o) (laws.along l o d a j q) (held.inside j hj) in
        let ends : a + len ≤ 2 ^ 32 = unwrapped a len ha (λ j hj. let h = each j hj in omega (arith, il.region_from o h.known, h.from)) in
        let there : (y : ℕ) → a ≤ y → y < a + len → is_some (t.memory.bytes y) ≡ true = from_spot a len (λ x. is_some (t.memory.bytes x) ≡ true) ends (λ j hj. in_slot-mapped laws l il p t.memory m.maps o ((a + j) % 2 ^ 32) (each j hj)) in
        let whole : span t.memory.bytes a len ≡ Some (get_all (bytes_in t.memory) a len) = span-all t.memory.bytes a len ends there in
        let test : is_lawful t.memory a len false ≡ true = lawful-of a len (is_mapped t.memory a len) ends (from_each (λ x. is_some (t.memory.bytes x)) a len there) in
        subst (λ (b : Bool). StepMatches l p input s t (inf_prints s fd len ns records) (cond b (prints t fd a len (span t.memory.bytes a len)) (answers t bad_span))) (sym test)
        (subst (λ (found : Option (List ℕ)). StepMatches l p input s t (inf_prints s fd len ns records) (prints t fd a len found)) (sym whole)
        (printed l p input s t m fd a len hl ns (get_all (bytes_in t.memory) a len)
        (subst (λ (r : Option (List ℕ)). IfSome r (λ ns. get_all (bytes_in t.memory) a len ≡ ns)) is (numbered l (laws.pointer_loads l (cells_of_state s) (bytes_in t.memory) m.memory o d a len q held))) records))

    under : (ns : Option (List ℕ)) → numbers_of (get_all ((cells_of_state s).heap o) d len) ≡ ns → StepMatches l p input s t (inf_prints s fd len ns records) (cond (is_lawful t.memory a len false) (prints t fd a len (span t.memory.bytes a len)) (answers t bad_span))
    under (Some ns) is = harmless_first l p input s t (inf.Prints fd ns (inf_next s 10 (Num len)) records) _ (λ u. lawful u (Some ns) is)
    under None is = tt
write_at_matches laws l il p input s t m fd (Mix b c d e) a len ha hl q = tt
write_at_matches laws l il p input s t m fd (Low b) a len ha hl q = tt

unwritten : (l : Layout) (p : Mapping) (input : List ℕ) (s : InfState) (t : Core) → StateMatches l p s t → (fd : ℕ) (f : Next) → StepMatches l p input s t (cond (is_printed fd) (inf.Blurs why.Operand []) (inf_answers s bad_descriptor)) (cond (not (is_printed fd)) (answers t bad_descriptor) f)
unwritten l p input s t m fd f = two_ways (is_printed fd) (λ b. StepMatches l p input s t (cond b (inf.Blurs why.Operand []) (inf_answers s bad_descriptor)) (cond (not b) (answers t bad_descriptor) f)) (λ e. tt) (λ e. answer_matches l p input s t m bad_descriptor (omega arith))

write_matches : Facts → (l : Layout) → IsLayout l → (p : Mapping) (input : List ℕ) (s : InfState) (t : Core) → StateMatches l p s t → (fd : ℕ) (v w : Value) (a len : ℕ) → a < 2 ^ 32 → len < 2 ^ 32 → Stands l v a → Stands l w len
    → StepMatches l p input s t (inf_write_to p s fd v w) (write_call t fd a len)
write_matches laws l il p input s t m fd v (Num n) a len ha hl stands is =
    subst (λ (x : ℕ). StepMatches l p input s t (inf_write_to p s fd v (Num x)) (write_call t fd a len)) is
    (both_test l p input s t (not (is_printed fd)) (not (is_printed fd)) _ _ _ _ refl (λ y. answer_matches l p input s t m bad_descriptor (omega arith)) (λ y.
    both_test l p input s t (nat_eq len 0) (nat_eq len 0) _ _ _ _ refl (λ z. answer_matches l p input s t m 0 (omega arith)) (λ z. write_at_matches laws l il p input s t m fd v a len ha hl stands)))
write_matches laws l il p input s t m fd v (Ptr o d) a len ha hl stands is = unwritten l p input s t m fd _
write_matches laws l il p input s t m fd v (Mix b c d e) a len ha hl stands is = unwritten l p input s t m fd _
write_matches laws l il p input s t m fd v (Low b) a len ha hl stands is = unwritten l p input s t m fd _

-- ---- which call

exits : (l : Layout) (p : Mapping) (s : InfState) (t : Core) → StateMatches l p s t → (code : ℕ) → StateMatches l p (record s { steps = s.steps + 1 }) (exited t code)
exits l p s t m code = record {
  pc = m.pc;
  pc_fits = m.pc_fits;
  steps = ap (λ (x : ℕ). x + 1) m.steps;
  calls = m.calls;
  count = m.count;
  aligned = m.aligned;
  width = m.width;
  fits = m.fits;
  regs = m.regs;
  maps = m.maps;
  memory = m.memory;
}

by_call : (l : Layout) (p : Mapping) (input : List ℕ) (s : InfState) (t : Core) (e r w : Bool) (i j k n : InfStep) (f g h q : Next) → StepMatches l p input s t i f → StepMatches l p input s t j g → StepMatches l p input s t k h → StepMatches l p input s t n q
    → StepMatches l p input s t (cond (e || (r || w)) (cond e i (cond r j k)) n) (cond e f (cond r g (cond w h q)))
by_call l p input s t true r w i j k n f g h q a b c d = a
by_call l p input s t false true w i j k n f g h q a b c d = b
by_call l p input s t false false true i j k n f g h q a b c d = c
by_call l p input s t false false false i j k n f g h q a b c d = d

uncalled : (l : Layout) (p : Mapping) (input : List ℕ) (s : InfState) (t : Core) (e r w : Bool) (n : InfStep) (f g h q : Next) → StepMatches l p input s t n q
    → StepMatches l p input s t (cond (e || (r || w)) (inf.Blurs why.Operand []) n) (cond e f (cond r g (cond w h q)))
uncalled l p input s t true r w n f g h q d = tt
uncalled l p input s t false true w n f g h q d = tt
uncalled l p input s t false false true n f g h q d = tt
uncalled l p input s t false false false n f g h q d = d

served : Facts → (l : Layout) → IsLayout l → (p : Mapping) (input : List ℕ) → All (λ b. b < 256) input → (s : InfState) (t : Core) → StateMatches l p s t → (a7 : ℕ) (v : Value) (a0 : ℕ) → Stands l v a0
    → StepMatches l p input s t (cond (is_exit a7 || (is_read a7 || is_write a7)) (inf_served p input s a7 v) (inf_answers s no_call))
    (cond (is_exit a7) (flat.Exits (a0 % 256) (exited t (a0 % 256))) (cond (is_read a7) (read_call t a0 (register t 11) (register t 12)) (cond (is_write a7) (write_call t a0 (register t 11) (register t 12)) (answers t no_call))))
served laws l il p input all s t m a7 (Num n) a0 is =
    subst (λ (x : ℕ). StepMatches l p input s t (cond (is_exit a7 || (is_read a7 || is_write a7)) (inf_served p input s a7 (Num x)) (inf_answers s no_call))
    (cond (is_exit a7) (flat.Exits (a0 % 256) (exited t (a0 % 256))) (cond (is_read a7) (read_call t a0 (register t 11) (register t 12)) (cond (is_write a7) (write_call t a0 (register t 11) (register t 12)) (answers t no_call))))) is
    (by_call l p input s t (is_exit a7) (is_read a7) (is_write a7) _ _ _ _ _ _ _ _
    (exits l p s t m (a0 % 256), refl, refl, refl)
    (read_matches laws l il p input all s t m a0 (s.regs 11) (s.regs 12) (register t 11) (register t 12) (m.fits 11 (omega arith)) (m.fits 12 (omega arith)) (m.regs 11 (omega arith)) (m.regs 12 (omega arith)))
    (write_matches laws l il p input s t m a0 (s.regs 11) (s.regs 12) (register t 11) (register t 12) (m.fits 11 (omega arith)) (m.fits 12 (omega arith)) (m.regs 11 (omega arith)) (m.regs 12 (omega arith)))
    (answer_matches l p input s t m no_call (omega arith)))
served laws l il p input all s t m a7 (Ptr o d) a0 is = uncalled l p input s t (is_exit a7) (is_read a7) (is_write a7) _ _ _ _ _ (answer_matches l p input s t m no_call (omega arith))
served laws l il p input all s t m a7 (Mix b c d e) a0 is = uncalled l p input s t (is_exit a7) (is_read a7) (is_write a7) _ _ _ _ _ (answer_matches l p input s t m no_call (omega arith))
served laws l il p input all s t m a7 (Low b) a0 is = uncalled l p input s t (is_exit a7) (is_read a7) (is_write a7) _ _ _ _ _ (answer_matches l p input s t m no_call (omega arith))

pub ecall_matches : Facts → (l : Layout) → IsLayout l → (p : Mapping) (input : List ℕ) → All (λ b. b < 256) input → (s : InfState) (t : Core) → StateMatches l p s t → (v : Value) (a7 : ℕ) → Stands l v a7
    → StepMatches l p input s t (inf_ecall p input s v) (ecall t a7)
ecall_matches laws l il p input all s t m (Num n) a7 is =
    subst (λ (x : ℕ). StepMatches l p input s t (inf_ecall p input s (Num x)) (ecall t a7)) is
    (served laws l il p input all s t m a7 (s.regs 10) (register t 10) (m.regs 10 (omega arith)))
ecall_matches laws l il p input all s t m (Ptr o d) a7 is = tt
ecall_matches laws l il p input all s t m (Mix b c d e) a7 is = tt
ecall_matches laws l il p input all s t m (Low b) a7 is = tt
