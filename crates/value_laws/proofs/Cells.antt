-- Values cell by cell, and low parts alone.
use Rattle.std.proofs.Common.{◌≡◌, ℕ, ◌+◌, ◌*◌, ◌%◌, ◌/◌, ◌^◌, ◌<◌, refl, ap, sym, ◌∙◌, subst, Bool, true, false, cond, ◌&&◌, arith, nat_eq}
use Rattle.std.specs.Prelude.{IfSome, bit_and, bit_or, bit_xor}
use Rattle.std.proofs.lemmas.Bool.{false≢true, eqb-true, and_parts}
use Rattle.std.specs.declared.option.Option.{Option}
use Rattle.std.specs.declared.option.Option.TheVariants.{Some, None}
use Rattle.infinite_heap.specs.declared.instr.Operation.{Operation}
use Rattle.infinite_heap.specs.declared.instr.Operation.TheVariants.{Add, Sub, Xor, Or, And}
use Rattle.infinite_heap.specs.declared.value.Cell.{Cell}
use Rattle.infinite_heap.specs.declared.value.Cell.TheVariants.{Byte, Part, Unset}
use Rattle.infinite_heap.specs.declared.value.Value.{Value}
use Rattle.infinite_heap.specs.declared.value.Value.TheVariants.{Num, Ptr, Mix, Low}
use Rattle.infinite_heap.specs.Alu.{alu}
use Rattle.infinite_heap.specs.Values.{Cells, byte, cells_of, value_of, low_part}
use Rattle.infinite_heap.specs.Layout.{Layout, IsAligned, place, CellStands, Stands, IsPlace, IsPart}
use Rattle.value_laws.specs.OperationLaws.{RowStands}
use Rattle.std.proofs.lemmas.Nat.{and_mod, or_mod, xor_mod, and_shr, or_shr, xor_shr, and_le_r, and_mask, and_comm, or_comm, xor_comm, or_lt, xor_lt, le_or_l}
use Rattle.infinite_heap.specs.Lift.{cell_and_number, cell_or_number, cell_xor_number, cell_by, value_by, if_known, goes_by_cells, combined_by, combined_cells, low_parts_by, low_result}
use Rattle.infinite_heap.specs.Values.{is_part}
use Rattle.value_laws.proofs.LowBits.{low_part_stands}

-- four cells stand for the bytes of a word
pub record CellsStand (l : Layout) (cs : Cells) (x : ℕ) : Type 0 where
  pub s0 : CellStands l cs.c0 (byte 0 x)
  pub s1 : CellStands l cs.c1 (byte 1 x)
  pub s2 : CellStands l cs.c2 (byte 2 x)
  pub s3 : CellStands l cs.c3 (byte 3 x)

part_of : (l : Layout) (o d k x : ℕ) → IsPlace l o d x → IsPart l o d k (byte k x)
part_of l o d k x p = record { known = p.known; fits = p.fits; is = ap (byte k) p.is }

pub cells_stand : (l : Layout) (v : Value) (x : ℕ) → Stands l v x → CellsStand l (cells_of v) x
cells_stand l (Num n) x p = record { s0 = ap (byte 0) p; s1 = ap (byte 1) p; s2 = ap (byte 2) p; s3 = ap (byte 3) p }
cells_stand l (Ptr o d) x p = record { s0 = part_of l o d 0 x p; s1 = part_of l o d 1 x p; s2 = part_of l o d 2 x p; s3 = part_of l o d 3 x p }
cells_stand l (Mix a b c d) x p = record { s0 = p.0; s1 = p.1; s2 = p.2; s3 = p.3 }
cells_stand l (Low b) x p = record { s0 = tt; s1 = tt; s2 = tt; s3 = tt }

-- a word from its bytes
pub from_bytes : (x : ℕ) → x < 2 ^ 32 → x ≡ byte 0 x + 256 * byte 1 x + 65536 * byte 2 x + 16777216 * byte 3 x
from_bytes x h = omega arith

pub same_bytes : (x y : ℕ) → x < 2 ^ 32 → y < 2 ^ 32 → byte 0 x ≡ byte 0 y → byte 1 x ≡ byte 1 y → byte 2 x ≡ byte 2 y → byte 3 x ≡ byte 3 y → x ≡ y
same_bytes x y hx hy p q r s = omega arith

-- a cell that is a pointer's byte stands for that byte
is_part_stands : (l : Layout) (o d k : ℕ) (c : Cell) (b : ℕ) → is_part o d k c ≡ true → CellStands l c b → b ≡ byte k (place l o d)
is_part_stands l o d k (Part p e j) b t h =
    let u = and_parts (nat_eq o p) (nat_eq d e && nat_eq k j) t in
    let v = and_parts (nat_eq d e) (nat_eq k j) u.1 in
    let po : o ≡ p = eqb-true o p u.0 in
    let pd : d ≡ e = eqb-true d e v.0 in
    let pk : k ≡ j = eqb-true k j v.1 in
    rw (po, pd, pk) h.is
is_part_stands l o d k (Byte n) b t h = absurd (false≢true t)
is_part_stands l o d k Unset b t h = absurd (false≢true t)

pub value_of_stands : (l : Layout) (c0 c1 c2 c3 : Cell) (x : ℕ) → x < 2 ^ 32
    → CellStands l c0 (byte 0 x) → CellStands l c1 (byte 1 x) → CellStands l c2 (byte 2 x) → CellStands l c3 (byte 3 x) → Stands l (value_of c0 c1 c2 c3) x
value_of_stands l (Byte a) (Byte b) (Byte c) (Byte d) x h p q r s = omega arith
value_of_stands l (Part o d k) c1 c2 c3 x h s0 s1 s2 s3 = go (nat_eq k 0 && (is_part o d 1 c1 && (is_part o d 2 c2 && is_part o d 3 c3))) refl
  where
    go : (t : Bool) → (nat_eq k 0 && (is_part o d 1 c1 && (is_part o d 2 c2 && is_part o d 3 c3))) ≡ t → Stands l (cond t (Ptr o d) (Mix (Part o d k) c1 c2 c3)) x
    go true t =
        let u = and_parts (nat_eq k 0) (is_part o d 1 c1 && (is_part o d 2 c2 && is_part o d 3 c3)) t in
        let v = and_parts (is_part o d 1 c1) (is_part o d 2 c2 && is_part o d 3 c3) u.1 in
        let w = and_parts (is_part o d 2 c2) (is_part o d 3 c3) v.1 in
        let e : k ≡ 0 = eqb-true k 0 u.0 in
        record {
          known = s0.known;
          fits = s0.fits;
          is = same_bytes x (place l o d) h (omega arith) (rw e at s0.is)
              (is_part_stands l o d 1 c1 (byte 1 x) v.0 s1) (is_part_stands l o d 2 c2 (byte 2 x) w.0 s2) (is_part_stands l o d 3 c3 (byte 3 x) w.1 s3);
        }
    go false t = (s0, s1, s2, s3)
value_of_stands l _ _ _ _ x h p q r s = (p, q, r, s)

and_byte : (j a b : ℕ) → bit_and a b / 2 ^ j % 2 ^ 8 ≡ bit_and (a / 2 ^ j % 2 ^ 8) (b / 2 ^ j % 2 ^ 8)
and_byte j a b = rw (and_shr a b j) (and_mod (a / 2 ^ j) (b / 2 ^ j) 8)

or_byte : (j a b : ℕ) → bit_or a b / 2 ^ j % 2 ^ 8 ≡ bit_or (a / 2 ^ j % 2 ^ 8) (b / 2 ^ j % 2 ^ 8)
or_byte j a b = rw (or_shr a b j) (or_mod (a / 2 ^ j) (b / 2 ^ j) 8)

xor_byte : (j a b : ℕ) → bit_xor a b / 2 ^ j % 2 ^ 8 ≡ bit_xor (a / 2 ^ j % 2 ^ 8) (b / 2 ^ j % 2 ^ 8)
xor_byte j a b = rw (xor_shr a b j) (xor_mod (a / 2 ^ j) (b / 2 ^ j) 8)

-- what an operation on words is on their bytes, and on a number and a cell
pub record IsByBytes (f : ℕ → ℕ → ℕ) (g : ℕ → Cell → Cell) : Type 0 where
  pub bytes : (j a b : ℕ) → f a b / 2 ^ j % 2 ^ 8 ≡ f (a / 2 ^ j % 2 ^ 8) (b / 2 ^ j % 2 ^ 8)
  pub fits : (a b : ℕ) → a < 2 ^ 32 → b < 2 ^ 32 → f a b < 2 ^ 32
  pub turned : (a b : ℕ) → f a b ≡ f b a
  pub number : (l : Layout) (m : ℕ) (c : Cell) (n : ℕ) → n < 256 → CellStands l c n → CellStands l (g m c) (f m n)

-- a cell by a test on a number
test_cell : (l : Layout) (m k : ℕ) (c d : Cell) (x : ℕ) → (m ≡ k → CellStands l c x) → CellStands l d x → CellStands l (cond (nat_eq m k) c d) x
test_cell l m k c d x h e = go (nat_eq m k) refl
  where
    go : (t : Bool) → nat_eq m k ≡ t → CellStands l (cond t c d) x
    go true p = h (eqb-true m k p)
    go false p = e

pub and_by_bytes : IsByBytes bit_and cell_and_number
and_by_bytes = record {
  bytes = and_byte;
  fits = λ a b p q. omega (arith, and_le_r a b);
  turned = and_comm;
  number = λ l m c n h p. test_cell l m 0 (Byte 0) (cond (nat_eq m 255) c Unset) (bit_and m n) (λ e. rw e refl)
      (test_cell l m 255 c Unset (bit_and m n) (λ e. rw (e, and_comm 255 n, and_mask n 8) (subst (CellStands l c) (omega arith) p)) tt);
}

all_ones : (n : ℕ) → n < 256 → bit_or 255 n ≡ 255
all_ones n h = omega (arith, le_or_l 255 n, or_lt 8 255 n (omega arith) h)

pub or_by_bytes : IsByBytes bit_or cell_or_number
or_by_bytes = record {
  bytes = or_byte;
  fits = λ a b p q. or_lt 32 a b p q;
  turned = or_comm;
  number = λ l m c n h p. test_cell l m 0 c (cond (nat_eq m 255) (Byte 255) Unset) (bit_or m n) (λ e. rw e p)
      (test_cell l m 255 (Byte 255) Unset (bit_or m n) (λ e. rw e (all_ones n h)) tt);
}

pub xor_by_bytes : IsByBytes bit_xor cell_xor_number
xor_by_bytes = record {
  bytes = xor_byte;
  fits = λ a b p q. xor_lt 32 a b p q;
  turned = xor_comm;
  number = λ l m c n h p. test_cell l m 0 c Unset (bit_xor m n) (λ e. rw e p) tt;
}

pub cell_by_stands : (l : Layout) (f : ℕ → ℕ → ℕ) (g : ℕ → Cell → Cell) → IsByBytes f g → (c d : Cell) (m n : ℕ) → m < 256 → n < 256
    → CellStands l c m → CellStands l d n → CellStands l (cell_by f g c d) (f m n)
cell_by_stands l f g by (Byte i) (Byte j) m n hm hn p q = rw (p, q) refl
cell_by_stands l f g by (Byte i) (Part o d k) m n hm hn p q = rw p (by.number l i (Part o d k) n hn q)
cell_by_stands l f g by (Byte i) Unset m n hm hn p q = rw p (by.number l i Unset n hn q)
cell_by_stands l f g by (Part o d k) (Byte j) m n hm hn p q = rw (by.turned m n, q) (by.number l j (Part o d k) m hm p)
cell_by_stands l f g by Unset (Byte j) m n hm hn p q = rw (by.turned m n, q) (by.number l j Unset m hm p)
cell_by_stands l f g by _ _ m n hm hn p q = tt

byte_lt : (k x : ℕ) → byte k x < 256
byte_lt k x = omega arith

pub value_by_stands : (l : Layout) (f : ℕ → ℕ → ℕ) (g : ℕ → Cell → Cell) → IsByBytes f g → (u v : Cells) (a b : ℕ) → a < 2 ^ 32 → b < 2 ^ 32
    → CellsStand l u a → CellsStand l v b → Stands l (value_by (cell_by f g) u v) (f a b)
value_by_stands l f g by u v a b ha hb p q =
    let at : (k j : ℕ) → 256 ^ k ≡ 2 ^ j → (c d : Cell) → CellStands l c (byte k a) → CellStands l d (byte k b) → CellStands l (cell_by f g c d) (byte k (f a b)) =
    λ k j e c d s t. subst (CellStands l (cell_by f g c d)) (whole k j e) (cell_by_stands l f g by c d (byte k a) (byte k b) (byte_lt k a) (byte_lt k b) s t) in
    value_of_stands l (cell_by f g u.c0 v.c0) (cell_by f g u.c1 v.c1) (cell_by f g u.c2 v.c2) (cell_by f g u.c3 v.c3) (f a b) (by.fits a b ha hb)
    (at 0 0 refl u.c0 v.c0 p.s0 q.s0) (at 1 8 refl u.c1 v.c1 p.s1 q.s1) (at 2 16 refl u.c2 v.c2 p.s2 q.s2) (at 3 24 refl u.c3 v.c3 p.s3 q.s3)
  where
    whole : (k j : ℕ) → 256 ^ k ≡ 2 ^ j → f (byte k a) (byte k b) ≡ byte k (f a b)
    whole k j e = rw e (sym (by.bytes j a b))

if_known_stands : (l : Layout) (v : Value) (x : ℕ) → Stands l v x → RowStands l (if_known v) x
if_known_stands l (Mix Unset Unset Unset Unset) x p = tt
if_known_stands l _ x p = p

combined_at : (l : Layout) (f : ℕ → ℕ → ℕ) (g : ℕ → Cell → Cell) → IsByBytes f g → (x y : Value) (a b : ℕ) → a < 2 ^ 32 → b < 2 ^ 32
    → Stands l x a → Stands l y b → RowStands l (combined_by (Some (cell_by f g)) x y) (f a b)
combined_at l f g by x y a b ha hb p q = go (goes_by_cells x y)
  where
    go : (t : Bool) → RowStands l (cond t (if_known (value_by (cell_by f g) (cells_of x) (cells_of y))) None) (f a b)
    go true = if_known_stands l (value_by (cell_by f g) (cells_of x) (cells_of y)) (f a b)
        (value_by_stands l f g by (cells_of x) (cells_of y) a b ha hb (cells_stand l x a p) (cells_stand l y b q))
    go false = tt

pub combined_cells_stands : (l : Layout) (op : Operation) (x y : Value) (a b : ℕ) → a < 2 ^ 32 → b < 2 ^ 32 → Stands l x a → Stands l y b → RowStands l (combined_cells op x y) (alu op a b)
combined_cells_stands l And x y a b ha hb p q = combined_at l bit_and cell_and_number and_by_bytes x y a b ha hb p q
combined_cells_stands l Or x y a b ha hb p q = combined_at l bit_or cell_or_number or_by_bytes x y a b ha hb p q
combined_cells_stands l Xor x y a b ha hb p q = combined_at l bit_xor cell_xor_number xor_by_bytes x y a b ha hb p q
combined_cells_stands l _ x y a b ha hb p q = tt

-- low parts alone
mod_twice : (a : ℕ) → a % 16 % 2 ^ 4 ≡ a % 2 ^ 4
mod_twice a = omega arith

low_by : (f : ℕ → ℕ → ℕ) → ((a b : ℕ) → f a b % 2 ^ 4 ≡ f (a % 2 ^ 4) (b % 2 ^ 4)) → (a b : ℕ) → f a b % 16 ≡ f (a % 16) (b % 16) % 16
low_by f m a b = m a b ∙ sym (m (a % 16) (b % 16) ∙ ap (λ (x : ℕ). f x (b % 16 % 2 ^ 4)) (mod_twice a) ∙ ap (f (a % 2 ^ 4)) (mod_twice b))

low_parts_by_stands : (l : Layout) (op : Operation) (u v : Option ℕ) (a b : ℕ) → alu op a b % 16 ≡ alu op (a % 16) (b % 16) % 16
    → IfSome u (λ c. a % 16 ≡ c) → IfSome v (λ c. b % 16 ≡ c) → RowStands l (low_parts_by op u v) (alu op a b)
low_parts_by_stands l op (Some c) (Some d) a b e p q = rw (← p, ← q) e
low_parts_by_stands l op (Some c) None a b e p q = tt
low_parts_by_stands l op None v a b e p q = tt

pub low_result_stands : (l : Layout) → IsAligned l → (op : Operation) (x y : Value) (a b : ℕ) → a < 2 ^ 32 → b < 2 ^ 32 → Stands l x a → Stands l y b → RowStands l (low_result op x y) (alu op a b)
low_result_stands l al Add x y a b ha hb p q = low_parts_by_stands l Add (low_part x) (low_part y) a b (omega arith) (low_part_stands l al x a p) (low_part_stands l al y b q)
low_result_stands l al Sub x y a b ha hb p q = low_parts_by_stands l Sub (low_part x) (low_part y) a b (omega arith) (low_part_stands l al x a p) (low_part_stands l al y b q)
low_result_stands l al And x y a b ha hb p q = low_parts_by_stands l And (low_part x) (low_part y) a b (low_by bit_and (λ a b. and_mod a b 4) a b) (low_part_stands l al x a p) (low_part_stands l al y b q)
low_result_stands l al Or x y a b ha hb p q = low_parts_by_stands l Or (low_part x) (low_part y) a b (low_by bit_or (λ a b. or_mod a b 4) a b) (low_part_stands l al x a p) (low_part_stands l al y b q)
low_result_stands l al Xor x y a b ha hb p q = low_parts_by_stands l Xor (low_part x) (low_part y) a b (low_by bit_xor (λ a b. xor_mod a b 4) a b) (low_part_stands l al x a p) (low_part_stands l al y b q)
low_result_stands l al _ x y a b ha hb p q = tt
