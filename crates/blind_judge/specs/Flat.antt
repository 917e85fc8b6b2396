-- The cells and the mapping of flat memory.
use Rattle.std.specs.Prelude.{ℕ, Option, Some, None}
use Rattle.infinite_heap.specs.declared.value.Cell.{Cell}
use Rattle.infinite_heap.specs.declared.value.Cell.TheVariants.{Byte}
use Rattle.infinite_heap.specs.Mapped.{Mapping}
use Rattle.blind_judge.specs.declared.flat.Flat.{Flat}
use Rattle.blind_judge.specs.AreaLists as areas
use Rattle.blind_judge.specs.FlatBytes.{byte_in}
use Rattle.blind_judge.specs.FlatCells.{odd_in}

-- a cell that is no number, or else a number
abbrev pub cell_or : Option Cell → ℕ → Cell
cell_or (Some c) b = c
cell_or None b = Byte b

-- the cell at each address
abbrev pub flat_of : Flat → ℕ → Cell
flat_of flat = λ x. cell_or (odd_in flat.cells x) (byte_in flat.bytes x)

-- what is mapped
abbrev pub mapping_in : Flat → Mapping
mapping_in flat = areas.mapping_in flat.areas
