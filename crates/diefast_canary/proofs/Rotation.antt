-- A word that is turned right by a number of bytes, byte by byte.
use Rattle.std.proofs.Common.{◌≡◌, ℕ, zero, suc, ◌+◌, ◌*◌, ◌/◌, ◌%◌, ◌^◌, ◌<◌, ap, ◌∙◌, arith, w32, bit_or}
use Rattle.std.specs.Int.{rotate_right}
use Rattle.std.proofs.lemmas.Nat.{or_comm, or_shifted}
use lib.Bits.{or_self}
use Rattle.diefast_canary.specs.Canary.{canary_byte}

-- a fact of four numbers
four : (P : ℕ → Type 0) → P 0 → P 1 → P 2 → P 3 → (i : ℕ) → i < 4 → P i
four P a b c d zero low = a
four P a b c d (suc zero) low = b
four P a b c d (suc (suc zero)) low = c
four P a b c d (suc (suc (suc zero))) low = d
four P a b c d (suc (suc (suc (suc i)))) low = absurd (omega arith)

-- byte i of the one word is byte p + i of the other
abbrev IsByte : (word turned p i : ℕ) → Type 0
IsByte word turned p i = turned / 256 ^ i % 256 ≡ word / 256 ^ ((p + i) % 4) % 256

abbrev AreBytes : (word turned p : ℕ) → Type 0
AreBytes word turned p = (i : ℕ) → i < 4 → IsByte word turned p i

by_none : (word turned : ℕ) → word < 2 ^ 32 → turned ≡ word → AreBytes word turned 0
by_none word turned small e = four (IsByte word turned 0) (omega arith) (omega arith) (omega arith) (omega arith)

by_one : (word turned : ℕ) → word < 2 ^ 32 → turned ≡ word % 256 * 2 ^ 24 + word / 256 → AreBytes word turned 1
by_one word turned small e = four (IsByte word turned 1) (omega arith) (omega arith) (omega arith) (omega arith)

by_two : (word turned : ℕ) → word < 2 ^ 32 → turned ≡ word % 65536 * 2 ^ 16 + word / 65536 → AreBytes word turned 2
by_two word turned small e = four (IsByte word turned 2) (omega arith) (omega arith) (omega arith) (omega arith)

by_three : (word turned : ℕ) → word < 2 ^ 32 → turned ≡ word % 16777216 * 2 ^ 8 + word / 16777216 → AreBytes word turned 3
by_three word turned small e = four (IsByte word turned 3) (omega arith) (omega arith) (omega arith) (omega arith)

-- the two parts of a turned word share no bit
parts : (low high k part : ℕ) → high ≡ part * 2 ^ k → low < 2 ^ k → bit_or low high ≡ part * 2 ^ k + low
parts low high k part e small = ap (bit_or low) e ∙ or_comm low (part * 2 ^ k) ∙ or_shifted part k low small

abbrev IsTurned : (word p : ℕ) → Type 0
IsTurned word p = AreBytes word (rotate_right w32 word (p * 8)) p

turned_by : (word : ℕ) → word < 2 ^ 32 → (p : ℕ) → p < 4 → IsTurned word p
turned_by word small =
    let same : word * 1 % 4294967296 ≡ word / 1 = omega arith in
    let whole : word / 1 ≡ word = omega arith in
    four (IsTurned word)
    (by_none word (rotate_right w32 word 0) small (ap (bit_or (word / 1)) same ∙ or_self (word / 1) ∙ whole))
    (by_one word (rotate_right w32 word 8) small (parts (word / 256) (word * 16777216 % 4294967296) 24 (word % 256) (omega arith) (omega arith)))
    (by_two word (rotate_right w32 word 16) small (parts (word / 65536) (word * 65536 % 4294967296) 16 (word % 65536) (omega arith) (omega arith)))
    (by_three word (rotate_right w32 word 24) small (parts (word / 16777216) (word * 256 % 4294967296) 8 (word % 16777216) (omega arith) (omega arith)))

-- the word's canary from an address on is the turned word's from 0 on
pub canary_byte-turned : (word address k : ℕ) → word < 2 ^ 32 → canary_byte (rotate_right w32 word (address % 4 * 8)) k ≡ canary_byte word (address + k)
canary_byte-turned word address k small =
    let e : (address % 4 + k % 4) % 4 ≡ (address + k) % 4 = omega arith in
    turned_by word small (address % 4) (omega arith) (k % 4) (omega arith) ∙ ap (λ i. word / 256 ^ i % 256) e
