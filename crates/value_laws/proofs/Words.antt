-- An operation gives a word.
use Rattle.std.proofs.Common.{◌≡◌, ℕ, zero, suc, ◌-◌, ◌*◌, ◌%◌, ◌/◌, ◌^◌, ◌<◌, ◌≤◌, refl, Bool, true, false, cond, arith, nat_eq, nat_lt, w32}
use Rattle.std.specs.Prelude.{ℤ, pos, negsuc}
use Rattle.infinite_heap.specs.declared.instr.Operation.{Operation}
use Rattle.infinite_heap.specs.declared.instr.Operation.TheVariants.{Add, Sub, Sll, Slt, Sltu, Xor, Srl, Sra, Or, And, Mul, Mulh, Mulhsu, Mulhu, Div, Divu, Rem, Remu}
use Rattle.infinite_heap.specs.Alu.{alu, signed, word, one_if}
use Rattle.std.specs.Int.Signed.{mag, mag_rem, mag_shr, quot_z, rem_z, shr_z}
use Rattle.std.proofs.Math.Facts.{sfits_to_z}
use Rattle.std.specs.Prelude.{◌*ℤ◌, int_lt, int_div, int_rem, unsigned_abs}
use native.Mathlib.Nat.{div-le_self, mod-le}
use Rattle.std.proofs.lemmas.Int.{unsigned_abs-mul}
use Rattle.std.proofs.lemmas.Nat.{and_le_r, or_lt, xor_lt, shr_le, mul-le, mul-lt}

word_lt : (z : ℤ) → mag z < 2 ^ 32 → word z < 2 ^ 32
word_lt (pos n) h = h
word_lt (negsuc n) h = omega arith

mag_signed : (x : ℕ) → x < 2 ^ 32 → mag (signed x) < 2 ^ 31
mag_signed x h = (sfits_to_z {w = w32} {n = x} (record { fits = h })).sfits

abs_signed : (z : ℤ) → mag z < 2 ^ 31 → unsigned_abs z ≤ 2 ^ 31
abs_signed (pos n) h = omega arith
abs_signed (negsuc n) h = omega arith

mag_le_abs : (z : ℤ) → mag z ≤ unsigned_abs z
mag_le_abs (pos n) = omega arith
mag_le_abs (negsuc n) = omega arith

mag-shr : (z : ℤ) (m : ℕ) → mag (shr_z z m) ≡ mag z / m
mag-shr (pos n) m = refl
mag-shr (negsuc n) m = refl

mag-neg : (n : ℕ) → mag (lib.IntN.neg_ℤ (pos n)) ≤ n
mag-neg zero = omega arith
mag-neg (suc n) = omega arith

quot_abs : (a b : ℤ) → mag (quot_z a b) ≤ unsigned_abs a
quot_abs (pos a) (pos b) = div-le_self a b
quot_abs (pos a) (negsuc b) = omega (arith, mag-neg (a / suc b), div-le_self a (suc b))
quot_abs (negsuc a) (pos b) = omega (arith, mag-neg (suc a / b), div-le_self (suc a) b)
quot_abs (negsuc a) (negsuc b) = div-le_self (suc a) (suc b)

one_if_lt : (b : Bool) → one_if b < 2 ^ 32
one_if_lt true = omega arith
one_if_lt false = omega arith

cond_lt : (b : Bool) (m n : ℕ) → m < 2 ^ 32 → n < 2 ^ 32 → cond b m n < 2 ^ 32
cond_lt true m n h k = h
cond_lt false m n h k = k

high_lt : (a b : ℤ) (m : ℕ) → unsigned_abs a ≤ 2 ^ 31 → unsigned_abs b ≤ 2 ^ 32 → word (shr_z (a *ℤ b) (2 ^ 32)) < 2 ^ 32
high_lt a b m ha hb =
    let p : unsigned_abs (a *ℤ b) ≤ 2 ^ 31 * 2 ^ 32 = rw (unsigned_abs-mul a b) (mul-le (unsigned_abs a) (unsigned_abs b) (2 ^ 31) (2 ^ 32) ha hb) in
    word_lt (shr_z (a *ℤ b) (2 ^ 32)) (omega (arith, mag-shr (a *ℤ b) (2 ^ 32), mag_le_abs (a *ℤ b)))

pub alu_lt : (op : Operation) (x y : ℕ) → x < 2 ^ 32 → y < 2 ^ 32 → alu op x y < 2 ^ 32
alu_lt Add x y hx hy = omega arith
alu_lt Sub x y hx hy = omega arith
alu_lt Sll x y hx hy = omega arith
alu_lt Slt x y hx hy = one_if_lt (int_lt (signed x) (signed y))
alu_lt Sltu x y hx hy = one_if_lt (nat_lt x y)
alu_lt Xor x y hx hy = xor_lt 32 x y hx hy
alu_lt Srl x y hx hy = omega (arith, shr_le x (y % 32))
alu_lt Sra x y hx hy = word_lt (shr_z (signed x) (2 ^ (y % 32))) (omega (arith, mag_shr (signed x) (2 ^ (y % 32)), mag_signed x hx))
alu_lt Or x y hx hy = or_lt 32 x y hx hy
alu_lt And x y hx hy = omega (arith, and_le_r x y)
alu_lt Mul x y hx hy = omega arith
alu_lt Mulh x y hx hy = high_lt (signed x) (signed y) 0 (abs_signed (signed x) (mag_signed x hx)) (omega (arith, abs_signed (signed y) (mag_signed y hy)))
alu_lt Mulhsu x y hx hy = high_lt (signed x) (pos y) 0 (abs_signed (signed x) (mag_signed x hx)) (omega arith)
alu_lt Mulhu x y hx hy = omega (arith, mul-lt x y (2 ^ 32) (2 ^ 32) hx hy)
alu_lt Div x y hx hy = cond_lt (nat_eq y 0) (2 ^ 32 - 1) (word (int_div (signed x) (signed y))) (omega arith)
    (word_lt (int_div (signed x) (signed y)) (omega (arith, quot_abs (signed x) (signed y), abs_signed (signed x) (mag_signed x hx))))
alu_lt Divu x y hx hy = cond_lt (nat_eq y 0) (2 ^ 32 - 1) (x / y) (omega arith) (omega (arith, div-le_self x y))
alu_lt Rem x y hx hy = cond_lt (nat_eq y 0) x (word (int_rem (signed x) (signed y))) hx
    (word_lt (int_rem (signed x) (signed y)) (omega (arith, mag_rem (signed x) (signed y), mag_signed x hx)))
alu_lt Remu x y hx hy = cond_lt (nat_eq y 0) x (x % y) hx (omega (arith, mod-le x y))
