-- Values, their cells and their low parts: docs/infinite-heap.md, "Cells and values".
use Rattle.std.specs.Prelude.{ℕ, zero, suc, ◌+◌, ◌*◌, ◌/◌, ◌%◌, ◌^◌, ◌&&◌, Bool, false, nat_eq, nat_lt, if◌then◌else◌}
use Rattle.std.specs.declared.option.Option.{Option}
use Rattle.std.specs.declared.option.Option.TheVariants.{Some, None}
use Rattle.infinite_heap.specs.declared.value.Cell.{Cell}
use Rattle.infinite_heap.specs.declared.value.Cell.TheVariants.{Byte, Part, Unset}
use Rattle.infinite_heap.specs.declared.value.Value.{Value}
use Rattle.infinite_heap.specs.declared.value.Value.TheVariants.{Num, Ptr, Mix, Low}

-- byte k of a word, lowest first
abbrev pub byte : ℕ → ℕ → ℕ
byte k x = x / 256 ^ k % 256

-- the word of four bytes, lowest first
abbrev pub word_of : ℕ → ℕ → ℕ → ℕ → ℕ
word_of a b c d = a + 256 * b + 65536 * c + 16777216 * d

-- the four cells of a value, lowest first
pub record Cells : Type 0 where
  pub c0 : Cell
  pub c1 : Cell
  pub c2 : Cell
  pub c3 : Cell

abbrev pub cells_of : Value → Cells
cells_of (Num n) = record { c0 = Byte (byte 0 n); c1 = Byte (byte 1 n); c2 = Byte (byte 2 n); c3 = Byte (byte 3 n) }
cells_of (Ptr o d) = record { c0 = Part o d 0; c1 = Part o d 1; c2 = Part o d 2; c3 = Part o d 3 }
cells_of (Mix a b c d) = record { c0 = a; c1 = b; c2 = c; c3 = d }
cells_of (Low b) = record { c0 = Unset; c1 = Unset; c2 = Unset; c3 = Unset }

-- the cell is byte k of the pointer to offset d in object o
abbrev pub is_part : ℕ → ℕ → ℕ → Cell → Bool
is_part o d k (Part p e j) = nat_eq o p && (nat_eq d e && nat_eq k j)
is_part o d k c = false

-- four cells as a value: four numbers are one number, the four bytes of one pointer are that pointer
abbrev pub value_of : Cell → Cell → Cell → Cell → Value
value_of (Byte a) (Byte b) (Byte c) (Byte d) = Num (word_of a b c d)
value_of (Part o d k) b c e =
    if nat_eq k 0 && (is_part o d 1 b && (is_part o d 2 c && is_part o d 3 e)) then Ptr o d else Mix (Part o d k) b c e
value_of a b c d = Mix a b c d

-- a value of which nothing is known
abbrev pub unknown : Value
unknown = Mix Unset Unset Unset Unset

-- the low four bits of a value, where they are known
abbrev pub low_part : Value → Option ℕ
low_part (Num n) = Some (n % 16)
low_part (Ptr o d) = Some (d % 16)
low_part (Mix (Byte n) b c d) = Some (n % 16)
low_part (Mix (Part o d zero) b c e) = Some (d % 16)
low_part (Mix (Part o d (suc k)) b c e) = None
low_part (Mix Unset b c d) = None
low_part (Low b) = Some b

-- what a cell's sign fills the cells above it with
abbrev pub sign_cell : Cell → Cell
sign_cell (Byte n) = if nat_lt n 128 then Byte 0 else Byte 255
sign_cell c = Unset
