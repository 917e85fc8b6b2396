-- Words whose cells are numbers.
use Rattle.std.specs.Prelude.{◌≡◌, ℕ, ◌/◌, Option, None}
use Rattle.infinite_heap.specs.declared.value.Cell.{Cell}

-- no cell of the word of an address is anything but a number
abbrev pub IsPlain : (ℕ → Option Cell) → ℕ → Type 0
IsPlain odd x = (y : ℕ) → y / 4 ≡ x / 4 → odd y ≡ None
