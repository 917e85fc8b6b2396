-- The high word of a product that is computed in 64 bits.
use Rattle.std.proofs.Common.{◌≡◌, ℕ, ◌/◌, ◌<◌, ◌≤◌, ℤ, pos, negsuc, ◌*ℤ◌, to_z, of_z, w32, w64, arith, refl}
use Rattle.std.specs.Int.RustNames.{unsigned_abs}
use Rattle.std.proofs.lemmas.Int.{to_z-of_z, fits_signed_mul}
use lib.Signed.{shr_z, mag}
use mir.Val.{SFits}

pub mag-shr : (z : ℤ) (m : ℕ) → mag (shr_z z m) ≡ mag z / m
mag-shr (pos n) m = refl
mag-shr (negsuc n) m = refl

pub abs_below : (z : ℤ) (m : ℕ) → mag z < m → unsigned_abs z ≤ m
abs_below (pos n) m h = omega arith
abs_below (negsuc n) m h = omega arith

pub high_word : (a b : ℤ) → mag a < 2147483648 → unsigned_abs b ≤ 4294967295
    → of_z w32 (to_z w32 (of_z w32 (to_z w64 (of_z w64 (shr_z (to_z w64 (of_z w64 (to_z w64 (of_z w64 a) *ℤ to_z w64 (of_z w64 b)))) 4294967296)))))
    ≡ of_z w32 (shr_z (a *ℤ b) 4294967296)
high_word a b ha hb =
    let fa : SFits w64 a = record { sfits = omega arith } in
    let fb : SFits w64 b = record { sfits = below b hb } in
    let fp : SFits w64 (a *ℤ b) = fits_signed_mul w64 a b 2147483648 4294967295 (abs_below a 2147483648 ha) hb (omega arith) in
    let fs : SFits w32 (shr_z (a *ℤ b) 4294967296) = record { sfits = omega (arith, mag-shr (a *ℤ b) 4294967296, fp.sfits) } in
    let fw : SFits w64 (shr_z (a *ℤ b) 4294967296) = record { sfits = omega (arith, fs.sfits) } in
    simp to_z-of_z
  where
    below : (z : ℤ) → unsigned_abs z ≤ 4294967295 → mag z < 9223372036854775808
    below (pos n) h = omega arith
    below (negsuc n) h = omega arith
