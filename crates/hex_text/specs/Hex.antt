-- Numbers as hexadecimal digits in lower case (docs/patches.md, "The text"; docs/instructions.md, "Text").
use Rattle.std.specs.Prelude.{◌⊎◌, ℕ, zero, suc, ◌+◌, ◌/◌, ◌%◌, ◌≤◌, nat_lt, List, [], ◌∷◌, ◌++◌, if◌then◌else◌}

-- the digit of a number below 16, as a byte: 0 to 9, then a to f
abbrev pub hex_digit : ℕ → ℕ
hex_digit d = if nat_lt d 10 then 48 + d else 87 + d

-- the lowest k digits of n, the highest first
unfoldable pub hex_of : ℕ → ℕ → List ℕ
hex_of zero n = []
hex_of (suc k) n = hex_of k (n / 16) ++ hex_digit (n % 16) ∷ []

abbrev pub IsHexDigit : ℕ → Type 0
IsHexDigit byte = ((48 ≤ byte) × (byte ≤ 57)) ⊎ ((97 ≤ byte) × (byte ≤ 102))
