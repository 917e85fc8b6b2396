-- Whole cells shifted.
use Rattle.std.proofs.Common.{◌≡◌, ℕ, zero, suc, ◌+◌, ◌-◌, ◌*◌, ◌%◌, ◌/◌, ◌^◌, ◌<◌, ◌≤◌, refl, subst, Bool, true, false, cond, ◌&&◌, ◌⊎◌, inl, inr, arith, nat_eq, nat_lt}
use Rattle.std.proofs.lemmas.Bool.{eqb-true, ltb-true, ltb-false, and_parts, cases_lt}
use Rattle.std.specs.declared.option.Option.TheVariants.{None}
use Rattle.infinite_heap.specs.declared.instr.Operation.{Operation}
use Rattle.infinite_heap.specs.declared.instr.Operation.TheVariants.{Sll, Srl, Sra}
use Rattle.infinite_heap.specs.declared.value.Cell.{Cell}
use Rattle.infinite_heap.specs.declared.value.Cell.TheVariants.{Byte}
use Rattle.infinite_heap.specs.declared.value.Value.{Value}
use Rattle.infinite_heap.specs.declared.value.Value.TheVariants.{Num}
use Rattle.infinite_heap.specs.Alu.{alu, signed, word}
use Rattle.infinite_heap.specs.Values.{Cells, byte, cells_of, value_of, sign_cell}
use Rattle.infinite_heap.specs.Layout.{Layout, CellStands, Stands}
use Rattle.value_laws.specs.OperationLaws.{RowStands}
use Rattle.infinite_heap.specs.Lift.{up_cells, down_cells, shifted_by, is_pointer_or_mix, shifted_cells}
use Rattle.value_laws.proofs.Cells.{CellsStand, cells_stand, value_of_stands}
use Rattle.value_laws.proofs.LowBits.{signed_low, signed_high}
use lib.Signed.{shr_z}

-- the four distances
at_each : (P : ℕ → Value → Type 0) (v0 v1 v2 v3 : Value) → P 0 v0 → P 1 v1 → P 2 v2 → P 3 v3
    → (k : ℕ) → k < 4 → P k (cond (nat_eq k 0) v0 (cond (nat_eq k 1) v1 (cond (nat_eq k 2) v2 v3)))
at_each P v0 v1 v2 v3 p0 p1 p2 p3 zero h = p0
at_each P v0 v1 v2 v3 p0 p1 p2 p3 (suc zero) h = p1
at_each P v0 v1 v2 v3 p0 p1 p2 p3 (suc (suc zero)) h = p2
at_each P v0 v1 v2 v3 p0 p1 p2 p3 (suc (suc (suc zero))) h = p3
at_each P v0 v1 v2 v3 p0 p1 p2 p3 (suc (suc (suc (suc k)))) h = absurd (omega arith)

moved_cell : (l : Layout) (c : Cell) (a b : ℕ) → a ≡ b → CellStands l c a → CellStands l c b
moved_cell l c a b e p = subst (CellStands l c) e p

up_stands : (l : Layout) (cs : Cells) (a : ℕ) → a < 2 ^ 32 → CellsStand l cs a → (k : ℕ) → k < 4 → Stands l (up_cells k cs) ((a * 2 ^ (8 * k)) % 2 ^ 32)
up_stands l cs a ha p =
    at_each (λ k v. Stands l v ((a * 2 ^ (8 * k)) % 2 ^ 32))
    (value_of cs.c0 cs.c1 cs.c2 cs.c3) (value_of (Byte 0) cs.c0 cs.c1 cs.c2) (value_of (Byte 0) (Byte 0) cs.c0 cs.c1) (value_of (Byte 0) (Byte 0) (Byte 0) cs.c0)
    (value_of_stands l cs.c0 cs.c1 cs.c2 cs.c3 ((a * 1) % 2 ^ 32) (omega arith)
    (moved_cell l cs.c0 (byte 0 a) (byte 0 ((a * 1) % 2 ^ 32)) (omega arith) p.s0) (moved_cell l cs.c1 (byte 1 a) (byte 1 ((a * 1) % 2 ^ 32)) (omega arith) p.s1)
    (moved_cell l cs.c2 (byte 2 a) (byte 2 ((a * 1) % 2 ^ 32)) (omega arith) p.s2) (moved_cell l cs.c3 (byte 3 a) (byte 3 ((a * 1) % 2 ^ 32)) (omega arith) p.s3))
    (value_of_stands l (Byte 0) cs.c0 cs.c1 cs.c2 ((a * 256) % 2 ^ 32) (omega arith) (omega arith)
    (moved_cell l cs.c0 (byte 0 a) (byte 1 ((a * 256) % 2 ^ 32)) (omega arith) p.s0) (moved_cell l cs.c1 (byte 1 a) (byte 2 ((a * 256) % 2 ^ 32)) (omega arith) p.s1)
    (moved_cell l cs.c2 (byte 2 a) (byte 3 ((a * 256) % 2 ^ 32)) (omega arith) p.s2))
    (value_of_stands l (Byte 0) (Byte 0) cs.c0 cs.c1 ((a * 65536) % 2 ^ 32) (omega arith) (omega arith) (omega arith)
    (moved_cell l cs.c0 (byte 0 a) (byte 2 ((a * 65536) % 2 ^ 32)) (omega arith) p.s0) (moved_cell l cs.c1 (byte 1 a) (byte 3 ((a * 65536) % 2 ^ 32)) (omega arith) p.s1))
    (value_of_stands l (Byte 0) (Byte 0) (Byte 0) cs.c0 ((a * 16777216) % 2 ^ 32) (omega arith) (omega arith) (omega arith) (omega arith)
    (moved_cell l cs.c0 (byte 0 a) (byte 3 ((a * 16777216) % 2 ^ 32)) (omega arith) p.s0))

down_stands : (l : Layout) (c : Cell) (s : ℕ) (cs : Cells) (a : ℕ) → a < 2 ^ 32 → CellStands l c s → (s ≡ 0) ⊎ (s ≡ 255) → (w : ℕ → ℕ) → CellsStand l cs a
    → (w 0 ≡ a) → (w 1 ≡ a / 256 + s * 16777216) → (w 2 ≡ a / 65536 + s * 16777216 + s * 65536) → (w 3 ≡ a / 16777216 + s * 16777216 + s * 65536 + s * 256)
    → (k : ℕ) → k < 4 → Stands l (down_cells c k cs) (w k)
down_stands l c s cs a ha q z w p e0 e1 e2 e3 =
    let b : s < 256 = grind arith in
    at_each (λ k v. Stands l v (w k))
    (value_of cs.c0 cs.c1 cs.c2 cs.c3) (value_of cs.c1 cs.c2 cs.c3 c) (value_of cs.c2 cs.c3 c c) (value_of cs.c3 c c c)
    (rw e0 (value_of_stands l cs.c0 cs.c1 cs.c2 cs.c3 a ha p.s0 p.s1 p.s2 p.s3))
    (value_of_stands l cs.c1 cs.c2 cs.c3 c (w 1) (omega arith)
    (moved_cell l cs.c1 (byte 1 a) (byte 0 (w 1)) (omega arith) p.s1) (moved_cell l cs.c2 (byte 2 a) (byte 1 (w 1)) (omega arith) p.s2)
    (moved_cell l cs.c3 (byte 3 a) (byte 2 (w 1)) (omega arith) p.s3) (moved_cell l c s (byte 3 (w 1)) (omega arith) q))
    (value_of_stands l cs.c2 cs.c3 c c (w 2) (omega arith)
    (moved_cell l cs.c2 (byte 2 a) (byte 0 (w 2)) (omega arith) p.s2) (moved_cell l cs.c3 (byte 3 a) (byte 1 (w 2)) (omega arith) p.s3)
    (moved_cell l c s (byte 2 (w 2)) (omega arith) q) (moved_cell l c s (byte 3 (w 2)) (omega arith) q))
    (value_of_stands l cs.c3 c c c (w 3) (omega arith)
    (moved_cell l cs.c3 (byte 3 a) (byte 0 (w 3)) (omega arith) p.s3)
    (moved_cell l c s (byte 1 (w 3)) (omega arith) q) (moved_cell l c s (byte 2 (w 3)) (omega arith) q) (moved_cell l c s (byte 3 (w 3)) (omega arith) q))

shift_right : (a : ℕ) → a < 2 ^ 32 → (m : ℕ) → a < 2 ^ 31 → word (shr_z (signed a) m) ≡ a / m
shift_right a ha m h = rw (signed_low a h) refl

shift_negative : (a : ℕ) → a < 2 ^ 32 → (m : ℕ) → 2 ^ 31 ≤ a → word (shr_z (signed a) m) ≡ 2 ^ 32 - suc ((2 ^ 32 - suc a) / m)
shift_negative a ha m h = rw (signed_high a ha h) refl

sign_stands : (l : Layout) (c : Cell) (a s : ℕ) → a < 2 ^ 32 → ((a < 2 ^ 31) × (s ≡ 0)) ⊎ ((2 ^ 31 ≤ a) × (s ≡ 255)) → CellStands l c (byte 3 a) → CellStands l (sign_cell c) s
sign_stands l (Byte n) a s ha z p = go (nat_lt n 128) refl z
  where
    go : (t : Bool) → nat_lt n 128 ≡ t → ((a < 2 ^ 31) × (s ≡ 0)) ⊎ ((2 ^ 31 ≤ a) × (s ≡ 255)) → CellStands l (cond t (Byte 0) (Byte 255)) s
    go true e (inl z) = z.1
    go true e (inr z) = absurd (omega (arith, ltb-true n 128 e, z.0, p))
    go false e (inl z) = absurd (omega (arith, ltb-false n 128 e, z.0, p))
    go false e (inr z) = z.1
sign_stands l _ a s ha z p = tt

sra_stands : (l : Layout) (cs : Cells) (a : ℕ) → a < 2 ^ 32 → CellsStand l cs a → (k : ℕ) → k < 4 → Stands l (down_cells (sign_cell cs.c3) k cs) (word (shr_z (signed a) (2 ^ (8 * k))))
sra_stands l cs a ha p = go (cases_lt a (2 ^ 31))
  where
    w : ℕ → ℕ
    w k = word (shr_z (signed a) (2 ^ (8 * k)))

    go : (a < 2 ^ 31) ⊎ (2 ^ 31 ≤ a) → (k : ℕ) → k < 4 → Stands l (down_cells (sign_cell cs.c3) k cs) (word (shr_z (signed a) (2 ^ (8 * k))))
    go (inl h) = down_stands l (sign_cell cs.c3) 0 cs a ha (sign_stands l cs.c3 a 0 ha (inl (h, refl)) p.s3) (inl refl) (λ k. word (shr_z (signed a) (2 ^ (8 * k)))) p
        (omega (arith, shift_right a ha 1 h)) (omega (arith, shift_right a ha 256 h)) (omega (arith, shift_right a ha 65536 h)) (omega (arith, shift_right a ha 16777216 h))
    go (inr h) = down_stands l (sign_cell cs.c3) 255 cs a ha (sign_stands l cs.c3 a 255 ha (inr (h, refl)) p.s3) (inr refl) (λ k. word (shr_z (signed a) (2 ^ (8 * k)))) p
        (omega (arith, shift_negative a ha 1 h)) (omega (arith, shift_negative a ha 256 h)) (omega (arith, shift_negative a ha 65536 h)) (omega (arith, shift_negative a ha 16777216 h))

shifted_by_stands : (l : Layout) (op : Operation) (cs : Cells) (a b k : ℕ) → a < 2 ^ 32 → k < 4 → b % 32 ≡ 8 * k → CellsStand l cs a → RowStands l (shifted_by op k cs) (alu op a b)
shifted_by_stands l Sll cs a b k ha hk e p = rw e (up_stands l cs a ha p k hk)
shifted_by_stands l Srl cs a b k ha hk e p = rw e (down_stands l (Byte 0) 0 cs a ha refl (inl refl) (λ k. a / 2 ^ (8 * k)) p (omega arith) (omega arith) (omega arith) (omega arith) k hk)
shifted_by_stands l Sra cs a b k ha hk e p = rw e (sra_stands l cs a ha p k hk)
shifted_by_stands l _ cs a b k ha hk e p = tt

pub shifted_cells_stands : (l : Layout) (op : Operation) (x y : Value) (a b : ℕ) → a < 2 ^ 32 → b < 2 ^ 32 → Stands l x a → Stands l y b → RowStands l (shifted_cells op x y) (alu op a b)
shifted_cells_stands l op x (Num s) a b ha hb p q = go (nat_eq (s % 32 % 8) 0 && is_pointer_or_mix x) refl
  where
    go : (t : Bool) → (nat_eq (s % 32 % 8) 0 && is_pointer_or_mix x) ≡ t → RowStands l (cond t (shifted_by op (s % 32 / 8) (cells_of x)) None) (alu op a b)
    go true e =
        let h : s % 32 % 8 ≡ 0 = eqb-true (s % 32 % 8) 0 ((and_parts (nat_eq (s % 32 % 8) 0) (is_pointer_or_mix x) e).0) in
        shifted_by_stands l op (cells_of x) a b (s % 32 / 8) ha (omega arith) (omega (arith, q)) (cells_stand l x a p)
    go false e = tt
shifted_cells_stands l op _ _ a b ha hb p q = tt
