-- Headers in the order of their addresses, and their neighbours.
use Rattle.std.specs.Prelude.{◌≡◌, ℕ, ◌+◌, ◌<◌, ◌≤◌, Bool, true, false, List, length, slice_index_or}
use Rattle.infinite_heap.specs.declared.program.Segment.{Segment}
use Rattle.infinite_heap.specs.Overlap.{overlaps, by_address}
use Rattle.elf_load.specs.declared.header.ProgramHeader.{ProgramHeader}

-- what stands past the end of a list
abbrev pub nowhere : ProgramHeader
nowhere = record { kind = 0; offset = 0; from = 0; held = 0; len = 0; flags = 0 }

abbrev pub header : List ProgramHeader → ℕ → ProgramHeader
header xs k = slice_index_or xs k nowhere

-- up to a place, each ends where the next begins, at the latest
pub record Chained (xs : List ProgramHeader) (high : ℕ) : Type 0 where
  pub at : (k : ℕ) → k + 1 < high → (header xs k).from + (header xs k).len ≤ (header xs (k + 1)).from

-- one ends after the next begins
pub record Meets (xs : List ProgramHeader) : Type 0 where
  pub place : ℕ
  pub inside : place + 1 < length xs
  pub meet : (header xs (place + 1)).from < (header xs place).from + (header xs place).len

-- the segments, and those after they were put in order, are apart
abbrev pub InOrder : List Segment → List Segment → Bool → Type 0
InOrder before after true = (overlaps before ≡ false) × (after ≡ by_address before)
InOrder before after false = overlaps before ≡ true
