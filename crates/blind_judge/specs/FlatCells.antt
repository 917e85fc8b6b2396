-- The cells at addresses that are no numbers.
use Rattle.std.specs.Prelude.{ℕ, Option}
use Rattle.std.specs.Ordering.{nat_cmp}
use Rattle.std.specs.BTreeMap as tree
use Rattle.infinite_heap.specs.declared.value.Cell.{Cell}
use Rattle.blind_judge.specs.declared.flat_cells.FlatCells.{FlatCells}

-- the cell at an address, where it is no number
abbrev pub odd_in : FlatCells → ℕ → Option Cell
odd_in cells = λ x. tree.get nat_cmp cells.cells x
