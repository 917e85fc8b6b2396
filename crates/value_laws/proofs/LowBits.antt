-- Low parts, the low bits of pointers, and orders.
use Rattle.std.proofs.Common.{◌≡◌, ℕ, zero, suc, ◌+◌, ◌-◌, ◌*◌, ◌%◌, ◌/◌, ◌^◌, ◌<◌, ◌≤◌, refl, ap, sym, subst, ◌∙◌, Bool, true, false, cond, not, ◌&&◌, ◌⊎◌, inl, inr, arith, nat_eq, nat_lt, nat_le, w32}
use Rattle.std.specs.Prelude.{IfSome, pos, negsuc, int_lt, bit_and, bit_or, bit_xor}
use Rattle.std.specs.Bool.{then_some}
use Rattle.std.specs.Option.{option_map}
use Rattle.std.proofs.lemmas.Bool.Decides.{nat_tests}
use Rattle.std.proofs.lemmas.Bool.{eqb-true, ltb-true, leb-true, and_parts, cases_lt, le-ltb}
use Rattle.std.proofs.lemmas.Int.{to_z_pos}
use Rattle.std.specs.declared.option.Option.{Option}
use Rattle.std.specs.declared.option.Option.TheVariants.{Some, None}
use Rattle.infinite_heap.specs.declared.instr.Operation.{Operation}
use Rattle.infinite_heap.specs.declared.instr.Operation.TheVariants.{Sll, Slt, Sltu, Xor, Or, And}
use Rattle.infinite_heap.specs.declared.value.Cell.TheVariants.{Byte, Part, Unset}
use Rattle.infinite_heap.specs.declared.value.Value.{Value}
use Rattle.infinite_heap.specs.declared.value.Value.TheVariants.{Num, Ptr, Mix, Low}
use Rattle.infinite_heap.specs.Alu.{alu, signed, one_if}
use Rattle.infinite_heap.specs.Values.{low_part}
use Rattle.infinite_heap.specs.Layout.{Layout, IsAlignment, IsAligned, AreAlignments, Stands, IsPlace}
use Rattle.value_laws.specs.LayoutLaws.{AddressesAreWhole}
use Rattle.value_laws.specs.OperationLaws.{RowStands}
use Rattle.value_laws.proofs.Alignments.{Cut, cut, and_low, and_high, or_low, xor_low}
use Rattle.value_laws.proofs.Pointers.{when_stands}
use Rattle.std.proofs.lemmas.Nat.{and_le_r, and_comm, or_comm, xor_comm, or_lt, xor_lt}
use Rattle.infinite_heap.specs.Order.{near, below, below_signed}
use Rattle.infinite_heap.specs.Region.{in_region}
use Rattle.infinite_heap.specs.Lift.{Alignments, or_else, masked_value, masked_pointer, masked_by, masked_low_part, changed_by, changed_low_bits, low_part_at_top, order_result}

pub or_else_stands : (l : Layout) (r s : Option Value) (x : ℕ) → RowStands l r x → RowStands l s x → RowStands l (or_else r s) x
or_else_stands l (Some v) s x p q = p
or_else_stands l None s x p q = q

-- an address is a multiple of 16
pub sixteenth : AddressesAreWhole
sixteenth l al o h = by_power (al.power o h)
  where
    by_power : IsAlignment (l.align o) → l.at o % 16 ≡ 0
    by_power (k, lo, hi, e) = (cut k lo hi).sixteen (l.at o) (subst (λ (m : ℕ). l.at o % m ≡ 0) e (al.whole o h))

-- the low part is that of the word
pub low_part_stands : (l : Layout) → IsAligned l → (x : Value) (a : ℕ) → Stands l x a → IfSome (low_part x) (λ b. a % 16 ≡ b)
low_part_stands l al (Num n) a p = omega arith
low_part_stands l al (Ptr o d) a p = omega (arith, p.is, sixteenth l al o p.known)
low_part_stands l al (Mix (Byte n) b c d) a p = omega (arith, p.0)
low_part_stands l al (Mix (Part o d zero) b c e) a p = omega (arith, p.0.is, sixteenth l al o p.0.known)
low_part_stands l al (Mix (Part o d (suc k)) b c e) a p = tt
low_part_stands l al (Mix Unset b c d) a p = tt
low_part_stands l al (Low b) a p = p

-- the low bits of a place, below its object's alignment
place_low : (l : Layout) → IsAligned l → (o d a k : ℕ) → IsPlace l o d a → Cut k → l.align o ≡ 2 ^ k → a % 2 ^ k ≡ d % 2 ^ k
place_low l al o d a k p c e = c.place (l.at o) d a (subst (λ (m : ℕ). l.at o % m ≡ 0) e (al.whole o p.known)) p.is

-- these bits of a place replaced
replaced : (l : Layout) → IsAligned l → (o d a k q : ℕ) → IsPlace l o d a → Cut k → l.align o ≡ 2 ^ k → q < 2 ^ k → IsPlace l o (d / 2 ^ k * 2 ^ k + q) (a / 2 ^ k * 2 ^ k + q)
replaced l al o d a k q p c e h = record {
  known = p.known;
  fits = c.fits d q p.fits h;
  is = c.above (l.at o) d a q (subst (λ (m : ℕ). l.at o % m ≡ 0) e (al.whole o p.known)) p.fits p.is h;
}

masked_value_stands : (l : Layout) → IsAligned l → (x y : Value) (a b : ℕ) → Stands l x a → Stands l y b → RowStands l (masked_value x y) (bit_and b a)
masked_value_stands l al (Num n) y a b p q = go (nat_lt n 16) refl (low_part y) (low_part_stands l al y b q)
  where
    go : (t : Bool) → nat_lt n 16 ≡ t → (o : Option ℕ) → IfSome o (λ c. b % 16 ≡ c) → RowStands l (cond t (option_map (λ c. Num (bit_and c n)) o) None) (bit_and b a)
    go true e (Some c) h = rw (p, ← h) (and_low 4 (cut 4 (omega arith) (omega arith)) b n (ltb-true n 16 e))
    go true e None h = tt
    go false e o h = tt
masked_value_stands l al _ y a b p q = tt

masked_pointer_stands : (l : Layout) → IsAligned l → (aligns : Alignments) → AreAlignments l aligns → (x y : Value) (a b : ℕ) → Stands l x a → Stands l y b → RowStands l (masked_pointer aligns x y) (bit_and b a)
masked_pointer_stands l al aligns ok (Num n) (Ptr o d) a b p q =
    when_stands l (nat_lt n (aligns o)) (Num (bit_and d n)) (bit_and b a) (λ t. by_power (ltb-true n (aligns o) t) (ok o q.known) (al.power o q.known))
  where
    by_power : n < aligns o → aligns o ≤ l.align o → IsAlignment (l.align o) → bit_and b a ≡ bit_and d n
    by_power h m (k, lo, hi, e) =
        let c : Cut k = cut k lo hi in
        let s : n < 2 ^ k = omega (arith, h, m, e) in
        rw p (and_low k c b n s ∙ ap (λ (x : ℕ). bit_and x n) (place_low l al o d b k q c e) ∙ sym (and_low k c d n s))
masked_pointer_stands l al aligns ok _ _ a b p q = tt

masked_by_stands : (l : Layout) → IsAligned l → (aligns : Alignments) → AreAlignments l aligns → (x y : Value) (a b : ℕ) → Stands l x a → Stands l y b → RowStands l (masked_by aligns x y) (bit_and b a)
masked_by_stands l al aligns ok x y a b p q =
    or_else_stands l (masked_value x y) (masked_pointer aligns x y) (bit_and b a) (masked_value_stands l al x y a b p q) (masked_pointer_stands l al aligns ok x y a b p q)

pub masked_low_part_stands : (l : Layout) → IsAligned l → (aligns : Alignments) → AreAlignments l aligns → (op : Operation) (x y : Value) (a b : ℕ) → Stands l x a → Stands l y b → RowStands l (masked_low_part aligns op x y) (alu op a b)
masked_low_part_stands l al aligns ok And x y a b p q =
    or_else_stands l (masked_by aligns x y) (masked_by aligns y x) (bit_and a b) (rw (and_comm a b) (masked_by_stands l al aligns ok x y a b p q)) (masked_by_stands l al aligns ok y x b a q p)
masked_low_part_stands l al aligns ok _ x y a b p q = tt

-- a pointer's low bits
and_below : (x n m : ℕ) → n < m → bit_and x n < m
and_below x n m h = omega (arith, and_le_r x n)

-- an operation that leaves all but the lowest k bits
changed : (l : Layout) → IsAligned l → (o d a k n q : ℕ) → IsPlace l o d a → Cut k → l.align o ≡ 2 ^ k → (f : ℕ → ℕ → ℕ)
    → ((x : ℕ) → x < 2 ^ 32 → f x n ≡ x / 2 ^ k * 2 ^ k + f (x % 2 ^ k) q) → ((x : ℕ) → x < 2 ^ k → f x q < 2 ^ k) → a < 2 ^ 32 → IsPlace l o (f d n) (f a n)
changed l al o d a k n q p c e f split small ha =
    let u : f d n ≡ d / 2 ^ k * 2 ^ k + f (a % 2 ^ k) q = split d p.fits ∙ ap (λ (x : ℕ). d / 2 ^ k * 2 ^ k + f x q) (sym (place_low l al o d a k p c e)) in
    rw (u, split a ha) (replaced l al o d a k (f (a % 2 ^ k) q) p c e (small (a % 2 ^ k) (c.low a)))

changed_by_stands : (l : Layout) → IsAligned l → (aligns : Alignments) → AreAlignments l aligns → (op : Operation) (o d n a : ℕ) → a < 2 ^ 32 → n < 2 ^ 32 → IsPlace l o d a → RowStands l (changed_by aligns op o d n) (alu op a n)
changed_by_stands l al aligns ok And o d n a ha hn p =
    when_stands l (nat_le (2 ^ 32 - aligns o) n) (Ptr o (bit_and d n)) (bit_and a n) (λ t. by_power (leb-true (2 ^ 32 - aligns o) n t) (ok o p.known) (al.power o p.known))
  where
    by_power : 2 ^ 32 - aligns o ≤ n → aligns o ≤ l.align o → IsAlignment (l.align o) → IsPlace l o (bit_and d n) (bit_and a n)
    by_power h m (k, lo, hi, e) =
        let c : Cut k = cut k lo hi in
        let s : 2 ^ 32 - 2 ^ k ≤ n = omega (arith, h, m, e) in
        changed l al o d a k n (n % 2 ^ k) p c e bit_and (λ x hx. and_high k c x n hx hn s) (λ x hx. and_below x (n % 2 ^ k) (2 ^ k) (c.low n)) ha
changed_by_stands l al aligns ok Or o d n a ha hn p =
    when_stands l (nat_lt n (aligns o)) (Ptr o (bit_or d n)) (bit_or a n) (λ t. by_power (ltb-true n (aligns o) t) (ok o p.known) (al.power o p.known))
  where
    by_power : n < aligns o → aligns o ≤ l.align o → IsAlignment (l.align o) → IsPlace l o (bit_or d n) (bit_or a n)
    by_power h m (k, lo, hi, e) =
        let c : Cut k = cut k lo hi in
        let s : n < 2 ^ k = omega (arith, h, m, e) in
        changed l al o d a k n n p c e bit_or (λ x hx. or_low k c x n s) (λ x hx. or_lt k x n hx s) ha
changed_by_stands l al aligns ok Xor o d n a ha hn p =
    when_stands l (nat_lt n (aligns o)) (Ptr o (bit_xor d n)) (bit_xor a n) (λ t. by_power (ltb-true n (aligns o) t) (ok o p.known) (al.power o p.known))
  where
    by_power : n < aligns o → aligns o ≤ l.align o → IsAlignment (l.align o) → IsPlace l o (bit_xor d n) (bit_xor a n)
    by_power h m (k, lo, hi, e) =
        let c : Cut k = cut k lo hi in
        let s : n < 2 ^ k = omega (arith, h, m, e) in
        changed l al o d a k n n p c e bit_xor (λ x hx. xor_low k c x n s) (λ x hx. xor_lt k x n hx s) ha
changed_by_stands l al aligns ok _ o d n a ha hn p = tt

-- the three operations give the same either way round
changed_back : (aligns : Alignments) (op : Operation) (o d n a : ℕ) (P : ℕ → Option Value → Type 0) → P (alu op a n) (changed_by aligns op o d n) → P (alu op n a) None → P (alu op n a) (changed_by aligns op o d n)
changed_back aligns And o d n a P h none = subst (λ (x : ℕ). P x (changed_by aligns And o d n)) (and_comm a n) h
changed_back aligns Or o d n a P h none = subst (λ (x : ℕ). P x (changed_by aligns Or o d n)) (or_comm a n) h
changed_back aligns Xor o d n a P h none = subst (λ (x : ℕ). P x (changed_by aligns Xor o d n)) (xor_comm a n) h
changed_back aligns _ o d n a P h none = none

pub changed_low_bits_stands : (l : Layout) → IsAligned l → (aligns : Alignments) → AreAlignments l aligns → (op : Operation) (x y : Value) (a b : ℕ) → a < 2 ^ 32 → b < 2 ^ 32 → Stands l x a → Stands l y b
    → RowStands l (changed_low_bits aligns op x y) (alu op a b)
changed_low_bits_stands l al aligns ok op (Ptr o d) (Num n) a b ha hb p q = rw q (changed_by_stands l al aligns ok op o d n a ha (omega (arith, q, hb)) p)
changed_low_bits_stands l al aligns ok op (Num n) (Ptr o d) a b ha hb p q =
    rw p (changed_back aligns op o d n b (λ x row. RowStands l row x) (changed_by_stands l al aligns ok op o d n b hb (omega (arith, p, ha)) q) tt)
changed_low_bits_stands l al aligns ok op _ _ a b ha hb p q = tt

-- a low part at the top
top_shift : (a b t : ℕ) → 28 ≤ t → t < 32 → a % 16 ≡ b → (a * 2 ^ t) % 2 ^ 32 ≡ (b * 2 ^ t) % 2 ^ 32
top_shift a b t lo hi e = by_cases (cases_lt t 29) (cases_lt t 30) (cases_lt t 31)
  where
    at : (k : ℕ) → t ≡ k → (a * 2 ^ k) % 2 ^ 32 ≡ (b * 2 ^ k) % 2 ^ 32 → (a * 2 ^ t) % 2 ^ 32 ≡ (b * 2 ^ t) % 2 ^ 32
    at k p h = rw p h

    by_cases : (t < 29) ⊎ (29 ≤ t) → (t < 30) ⊎ (30 ≤ t) → (t < 31) ⊎ (31 ≤ t) → (a * 2 ^ t) % 2 ^ 32 ≡ (b * 2 ^ t) % 2 ^ 32
    by_cases (inl p) q r = at 28 (omega arith) (omega arith)
    by_cases (inr p) (inl q) r = at 29 (omega arith) (omega arith)
    by_cases (inr p) (inr q) (inl r) = at 30 (omega arith) (omega arith)
    by_cases (inr p) (inr q) (inr r) = at 31 (omega arith) (omega arith)

pub low_part_at_top_stands : (l : Layout) → IsAligned l → (op : Operation) (x y : Value) (a b : ℕ) → a < 2 ^ 32 → b < 2 ^ 32 → Stands l x a → Stands l y b → RowStands l (low_part_at_top op x y) (alu op a b)
low_part_at_top_stands l al Sll x (Num s) a b ha hb p q = go (nat_le 28 (s % 32)) refl (low_part x) (low_part_stands l al x a p)
  where
    go : (t : Bool) → nat_le 28 (s % 32) ≡ t → (o : Option ℕ) → IfSome o (λ c. a % 16 ≡ c)
        → RowStands l (cond t (option_map (λ c. Num ((c * 2 ^ (s % 32)) % 2 ^ 32)) o) None) ((a * 2 ^ (b % 32)) % 2 ^ 32)
    go true e (Some c) h = rw q (top_shift a c (s % 32) (leb-true 28 (s % 32) e) (omega arith) h)
    go true e None h = tt
    go false e o h = tt
low_part_at_top_stands l al _ _ _ a b ha hb p q = tt

-- orders
pub signed_low : (a : ℕ) → a < 2 ^ 31 → signed a ≡ pos a
signed_low a h = to_z_pos w32 a h

pub signed_high : (a : ℕ) → a < 2 ^ 32 → 2 ^ 31 ≤ a → signed a ≡ negsuc (2 ^ 32 - suc a)
signed_high a h k = rw (le-ltb a (2 ^ 31) k) refl

-- a near place lies in the region, and doesn't wrap
near_place : (l : Layout) → IsAligned l → (o d a : ℕ) → IsPlace l o d a → near d ≡ true → (a ≡ l.at o + d) × (2 ^ 30 ≤ a) × (a < 2 ^ 31)
near_place l al o d a p t =
    let h : d ≤ 2 ^ 21 = leb-true d (2 ^ 21) t in
    let lo : 2 ^ 30 ≤ l.at o = al.above o p.known in
    let hi : l.at o < 0x7FE00000 = al.below o p.known in
    let e : a ≡ l.at o + d = omega (arith, p.is) in
    (e, omega arith, omega arith)

when_some : {A : Type 0} (b : Bool) (v : A) (P : A → Type 0) → (b ≡ true → P v) → IfSome (then_some b v) P
when_some true v P h = h refl
when_some false v P h = tt

outside : (n : ℕ) → not (in_region n) ≡ true → (n < 2 ^ 30) ⊎ (2 ^ 31 ≤ n)
outside n t = grind (arith, nat_tests)

pub below_stands : (l : Layout) → IsAligned l → (x y : Value) (a b : ℕ) → a < 2 ^ 32 → b < 2 ^ 32 → Stands l x a → Stands l y b → IfSome (below x y) (λ t. t ≡ nat_lt a b)
below_stands l al (Num m) (Num n) a b ha hb p q = rw (p, q) refl
below_stands l al (Ptr o d) (Ptr i e) a b ha hb p q =
    when_some (nat_eq o i && (near d && near e)) (nat_lt d e) (λ t. t ≡ nat_lt a b) (λ t.
    let u = and_parts (nat_eq o i) (near d && near e) t in
    let v = and_parts (near d) (near e) u.1 in
    let s : o ≡ i = eqb-true o i u.0 in
    let f = near_place l al o d a p v.0 in
    let g = near_place l al i e b q v.1 in
    let w : l.at o ≡ l.at i = ap l.at s in
    grind (arith, nat_tests))
below_stands l al (Ptr o d) (Num n) a b ha hb p q =
    when_some (near d && not (in_region n)) (nat_le (2 ^ 31) n) (λ t. t ≡ nat_lt a b) (λ t.
    let u = and_parts (near d) (not (in_region n)) t in
    let f = near_place l al o d a p u.0 in
    let g = outside n u.1 in
    grind (arith, nat_tests))
below_stands l al (Num n) (Ptr o d) a b ha hb p q =
    when_some (near d && not (in_region n)) (nat_lt n (2 ^ 30)) (λ t. t ≡ nat_lt a b) (λ t.
    let u = and_parts (near d) (not (in_region n)) t in
    let f = near_place l al o d b q u.0 in
    let g = outside n u.1 in
    grind (arith, nat_tests))
below_stands l al _ _ a b ha hb p q = tt

pub below_signed_stands : (l : Layout) → IsAligned l → (x y : Value) (a b : ℕ) → a < 2 ^ 32 → b < 2 ^ 32 → Stands l x a → Stands l y b → IfSome (below_signed x y) (λ t. t ≡ int_lt (signed a) (signed b))
below_signed_stands l al (Num m) (Num n) a b ha hb p q = rw (p, q) refl
below_signed_stands l al (Ptr o d) (Ptr i e) a b ha hb p q =
    when_some (nat_eq o i && (near d && near e)) (nat_lt d e) (λ t. t ≡ int_lt (signed a) (signed b)) (λ t.
    let u = and_parts (nat_eq o i) (near d && near e) t in
    let v = and_parts (near d) (near e) u.1 in
    let s : o ≡ i = eqb-true o i u.0 in
    let f = near_place l al o d a p v.0 in
    let g = near_place l al i e b q v.1 in
    let w : l.at o ≡ l.at i = ap l.at s in
    rw (signed_low a (omega arith), signed_low b (omega arith)) (grind (arith, nat_tests)))
below_signed_stands l al (Ptr o d) (Num n) a b ha hb p q =
    when_some (near d && not (in_region n)) false (λ t. t ≡ int_lt (signed a) (signed b)) (λ t.
    let u = and_parts (near d) (not (in_region n)) t in
    let f = near_place l al o d a p u.0 in
    by_sign f (outside n u.1))
  where
    by_sign : (a ≡ l.at o + d) × (2 ^ 30 ≤ a) × (a < 2 ^ 31) → (n < 2 ^ 30) ⊎ (2 ^ 31 ≤ n) → false ≡ int_lt (signed a) (signed b)
    by_sign f (inl h) = rw (signed_low a (omega arith), signed_low b (omega arith)) (grind (arith, nat_tests))
    by_sign f (inr h) = rw (signed_low a (omega arith), signed_high b hb (omega arith)) refl
below_signed_stands l al (Num n) (Ptr o d) a b ha hb p q =
    when_some (near d && not (in_region n)) true (λ t. t ≡ int_lt (signed a) (signed b)) (λ t.
    let u = and_parts (near d) (not (in_region n)) t in
    let f = near_place l al o d b q u.0 in
    by_sign f (outside n u.1))
  where
    by_sign : (b ≡ l.at o + d) × (2 ^ 30 ≤ b) × (b < 2 ^ 31) → (n < 2 ^ 30) ⊎ (2 ^ 31 ≤ n) → true ≡ int_lt (signed a) (signed b)
    by_sign f (inl h) = rw (signed_low a (omega arith), signed_low b (omega arith)) (grind (arith, nat_tests))
    by_sign f (inr h) = rw (signed_high a ha (omega arith), signed_low b (omega arith)) refl
below_signed_stands l al _ _ a b ha hb p q = tt

one_if_stands : (l : Layout) (o : Option Bool) (t : Bool) → IfSome o (λ s. s ≡ t) → RowStands l (option_map (λ b. Num (one_if b)) o) (one_if t)
one_if_stands l (Some s) t h = rw h refl
one_if_stands l None t h = tt

pub order_result_stands : (l : Layout) → IsAligned l → (op : Operation) (x y : Value) (a b : ℕ) → a < 2 ^ 32 → b < 2 ^ 32 → Stands l x a → Stands l y b → RowStands l (order_result op x y) (alu op a b)
order_result_stands l al Slt x y a b ha hb p q = one_if_stands l (below_signed x y) (int_lt (signed a) (signed b)) (below_signed_stands l al x y a b ha hb p q)
order_result_stands l al Sltu x y a b ha hb p q = one_if_stands l (below x y) (nat_lt a b) (below_stands l al x y a b ha hb p q)
order_result_stands l al _ x y a b ha hb p q = tt
