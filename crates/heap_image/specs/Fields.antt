-- Numbers of one, four and eight bytes, the lowest byte first (docs/images.md, "Bytes").
use Rattle.std.specs.Prelude.{ℕ, ◌^◌, slice_index, List, [], ◌∷◌}
use Rattle.std.specs.Int.{w32, w64, to_le_bytes, from_le_bytes}

pub data Size : Type 0 where
  Byte : Size
  Word : Size
  Long : Size

abbrev pub size_len : Size → ℕ
size_len Byte = 1
size_len Word = 4
size_len Long = 8

-- the numbers of a size are below
abbrev pub size_limit : Size → ℕ
size_limit Byte = 2 ^ 8
size_limit Word = 2 ^ 32
size_limit Long = 2 ^ 64

unfoldable pub number_bytes : Size → ℕ → List ℕ
number_bytes Byte n = n ∷ []
number_bytes Word n = to_le_bytes w32 n
number_bytes Long n = to_le_bytes w64 n

-- the number that the first bytes are
unfoldable pub number_in : Size → List ℕ → ℕ
number_in Byte bytes = slice_index bytes 0
number_in Word bytes = from_le_bytes w32 bytes
number_in Long bytes = from_le_bytes w64 bytes
