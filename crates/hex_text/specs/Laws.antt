-- Laws over hexadecimal digits, which crates above cite in their proofs. `digits_spell_one_number` and `padded_numbers_are_hex`
-- have them as clauses.
use Rattle.std.proofs.Common.{◌≡◌, inl, inr, ◌<◌, ◌≤◌, ℕ, zero, suc, ◌+◌, ◌-◌, ◌*◌, ◌/◌, ◌%◌, ◌^◌, List, [], ◌∷◌, ◌++◌, length, get_or, take, cond, Bool, true, false, nat_lt, nat_eq, refl, sym, ◌∙◌, ap, subst, arith, add-one, length-append, append_assoc, append-nil}
use Rattle.std.proofs.lemmas.Grind.{common_steps, pow_more, replicate_next}
use Rattle.std.proofs.lemmas.Bool.Decides.{nat_tests}
use Rattle.std.proofs.lemmas.List.{get_or_append_left, same_from_push}
use Rattle.std.proofs.Math.ListN.{replicate}
use Rattle.std.proofs.Math.Seq.{get_or-append_seam}
use Rattle.std.specs.Fmt.{digits, digits_onto, digit_glyph, padded_integral, format_spec, char_count}
use Rattle.hex_text.specs.Hex.{hex_of, hex_digit, IsHexDigit}

-- ---- digit by digit

-- there are as many digits as are asked for
abbrev pub DigitsAreCounted : Type 0
DigitsAreCounted = (k n : ℕ) → length (hex_of k n) ≡ k

-- each of them is one
abbrev pub DigitsAreDigits : Type 0
DigitsAreDigits = (k n i : ℕ) → i < k → IsHexDigit (get_or (hex_of k n) i 0)

pub hex-next : (k v d : ℕ) → d < 16 → hex_of (k + 1) (v * 16 + d) ≡ hex_of k v ++ hex_digit d ∷ []
unfolding hex_of
hex-next k v d small =
    let front : (v * 16 + d) / 16 ≡ v = omega arith in
    let last : (v * 16 + d) % 16 ≡ d = omega arith in
    rw (add-one, front, last)

pub length-hex_of : DigitsAreCounted
unfolding hex_of
length-hex_of zero n = refl
length-hex_of (suc k) n = omega (arith, length-append (hex_of k (n / 16)) (hex_digit (n % 16) ∷ []), length-hex_of k (n / 16))

pub digit-hex : (d : ℕ) → d < 16 → IsHexDigit (hex_digit d)
digit-hex d small = split (nat_lt d 10) refl
  where
    split : (b : Bool) → nat_lt d 10 ≡ b → IsHexDigit (cond b (48 + d) (87 + d))
    split true is = inl (omega arith, grind (arith, nat_tests))
    split false is = inr (grind (arith, nat_tests), omega arith)

digits-split : (k n i : ℕ) → i < suc k → (b : Bool) → nat_lt i k ≡ b → (i < k → IsHexDigit (get_or (hex_of k (n / 16)) i 0)) → IsHexDigit (get_or (hex_of k (n / 16) ++ hex_digit (n % 16) ∷ []) i 0)
digits-split k n i less true is front =
    let inside : i < k = grind (arith, nat_tests) in
    rw (get_or_append_left (hex_of k (n / 16)) (hex_digit (n % 16) ∷ []) 0 i (omega (arith, length-hex_of k (n / 16)))) (front inside)
digits-split k n i less false is front =
    let at : i ≡ length (hex_of k (n / 16)) = grind (arith, nat_tests, length-hex_of k (n / 16)) in
    rw (at, get_or-append_seam (hex_of k (n / 16)) (hex_digit (n % 16)) [] 0) (digit-hex (n % 16) (omega arith))

pub hex_of-digits : DigitsAreDigits
unfolding hex_of
hex_of-digits zero n i less = absurd (omega arith)
hex_of-digits (suc k) n i less = digits-split k n i less (nat_lt i k) refl (hex_of-digits k (n / 16) i)

pub spelled : (bytes : List ℕ) (i v d : ℕ) → i < length bytes → d < 16 → take i bytes ≡ hex_of i v → get_or bytes i 0 ≡ hex_digit d → take (i + 1) bytes ≡ hex_of (i + 1) (v * 16 + d)
spelled bytes i v d less small so_far is =
    let more : take (i + 1) bytes ≡ take i bytes ++ get_or bytes i 0 ∷ [] = grind (arith, common_steps) in
    more ∙ ap (λ front. front ++ get_or bytes i 0 ∷ []) so_far ∙ ap (λ b. hex_of i v ++ b ∷ []) is ∙ sym (hex-next i v d small)

-- ---- two numbers that fit have different digits

abbrev pub DigitsAreOfOne : Type 0
DigitsAreOfOne = (k m n : ℕ) → m < 16 ^ k → n < 16 ^ k → hex_of k m ≡ hex_of k n → m ≡ n

digit_same : (a b : ℕ) → a < 16 → b < 16 → hex_digit a ≡ hex_digit b → a ≡ b
digit_same a b p q e = grind (arith, nat_tests)

pub hex_same : DigitsAreOfOne
unfolding hex_of
hex_same zero m n p q e = omega arith
hex_same (suc k) m n p q e =
    let parts = same_from_push (hex_of k (m / 16)) (hex_of k (n / 16)) (hex_digit (m % 16)) (hex_digit (n % 16)) e in
    let front : m / 16 ≡ n / 16 = hex_same k (m / 16) (n / 16) (omega arith) (omega arith) parts.0 in
    let last : m % 16 ≡ n % 16 = digit_same (m % 16) (n % 16) (omega arith) (omega arith) parts.1 in
    omega arith

-- ---- a number printed with zeros up to eight digits

abbrev pub PaddedNumbersAreHex : Type 0
PaddedNumbersAreHex = (n : ℕ) → n < 2 ^ 32 → padded_integral (format_spec 32 0 4 8 (2 ^ 64 - 1)) false [] (digits 16 false n) ≡ hex_of 8 n

hex_of-zero : (k : ℕ) → hex_of k 0 ≡ replicate k 48
unfolding hex_of
hex_of-zero zero = refl
hex_of-zero (suc k) = let one_more : k + 1 ≡ suc k = omega arith in rw (hex_of-zero k) (sym (replicate_next k 48) ∙ ap (λ n. replicate n 48) one_more)

-- the digits of n before acc, with zeros up to k digits
abbrev zeroed : ℕ → ℕ → ℕ → List ℕ → List ℕ
zeroed k j n acc = replicate (k + length acc - length (digits_onto j 16 false n acc)) 48 ++ digits_onto j 16 false n acc

some-left : (k m : ℕ) → m < 16 ^ k → 0 < m → 0 < k
some-left zero m small some = absurd (omega arith)
some-left (suc k) m small some = omega arith

digit-more : (k j n : ℕ) (acc : List ℕ) → n < 16 ^ suc k → (b : Bool) → nat_eq (n / 16) 0 ≡ b
    → (0 < k → n / 16 < 16 ^ k → zeroed k j (n / 16) (digit_glyph false (n % 16) ∷ acc) ≡ hex_of k (n / 16) ++ digit_glyph false (n % 16) ∷ acc)
    → zeroed (suc k) (suc j) n acc ≡ hex_of (suc k) n ++ acc
unfolding hex_of
digit-more k j n acc small true is front =
    let last : n / 16 ≡ 0 = grind (arith, nat_tests) in
    let count : suc k + length acc - suc (length acc) ≡ k = omega arith in
    rw (is, last, count, hex_of-zero k, append_assoc)
digit-more k j n acc small false is front =
    let some : 0 < n / 16 = grind (arith, nat_tests) in
    let below : n / 16 < 16 ^ k = omega (arith, pow_more 16 k) in
    let count : suc k + length acc ≡ k + suc (length acc) = omega arith in
    rw (is, append_assoc, count) (front (some-left k (n / 16) below some) below)

padded : (k j n : ℕ) (acc : List ℕ) → k ≤ j → 0 < k → n < 16 ^ k → zeroed k j n acc ≡ hex_of k n ++ acc
padded zero j n acc le some small = absurd (omega arith)
padded (suc k) zero n acc le some small = absurd (omega arith)
padded (suc k) (suc j) n acc le some small = digit-more k j n acc small (nat_eq (n / 16) 0) refl (λ more below. padded k j (n / 16) (digit_glyph false (n % 16) ∷ acc) (omega arith) more below)

zeros-before : (ds : List ℕ) → padded_integral (format_spec 32 0 4 8 (2 ^ 64 - 1)) false [] ds ≡ replicate (8 - length ds) 48 ++ ds
unfolding padded_integral char_count
zeros-before ds = let none : 8 - length ds - 0 - 0 ≡ 8 - length ds = omega arith in rw (append-nil ds, none)

digits_onto-nil : (base : ℕ) (upper : Bool) (n : ℕ) → digits_onto 64 base upper n [] ≡ digits base upper n
unfolding digits
digits_onto-nil base upper n = refl

all-digits : (j n : ℕ) → j ≡ 64 → digits_onto j 16 false n [] ≡ digits 16 false n
all-digits j n is = ap (λ i. digits_onto i 16 false n []) is ∙ digits_onto-nil 16 false n

padded-at : (j n : ℕ) → j ≡ 64 → n < 16 ^ 8 → replicate (8 - length (digits 16 false n)) 48 ++ digits 16 false n ≡ hex_of 8 n
padded-at j n is small =
    subst (λ ds. replicate (8 - length ds) 48 ++ ds ≡ hex_of 8 n) (all-digits j n is)
    (padded 8 j n [] (omega arith) (omega arith) small ∙ append-nil (hex_of 8 n))

pub eight_digits : PaddedNumbersAreHex
eight_digits n small = zeros-before (digits 16 false n) ∙ padded-at 64 n refl small
