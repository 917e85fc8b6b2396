-- What the judge keeps of one offset of an object.
use Rattle.std.specs.Prelude.{Bool, false}
use Rattle.std.specs.declared.option.Option.{Option}
use Rattle.std.specs.declared.option.Option.TheVariants.{Some, None}
use Rattle.infinite_heap.specs.declared.value.Cell.{Cell}
use Rattle.infinite_heap.specs.declared.value.Cell.TheVariants as cell
use Rattle.blind_judge.specs.declared.entries.Entry.{Entry}
use Rattle.blind_judge.specs.declared.entries.Kind.{Kind}
use Rattle.blind_judge.specs.declared.entries.Kind.TheVariants as kind

abbrev pub cell_by : Kind → Entry → Option Cell
cell_by kind.Absent e = None
cell_by kind.Number e = Some (cell.Byte e.byte)
cell_by kind.Part e = Some (cell.Part e.object e.offset e.byte)
cell_by kind.Unset e = Some cell.Unset

-- the cell that an entry has, none where none was written
abbrev pub cell_in : Entry → Option Cell
cell_in e = cell_by e.kind e

-- what is kept where nothing was written
abbrev pub no_entry : Entry
no_entry = record { object = 0; offset = 0; byte = 0; kind = kind.Absent; stored = false }

-- the entry of a cell that was written, and of whether it counts as stored
abbrev pub entry_of : Cell → (stored : Bool) → Entry
entry_of (cell.Byte b) stored = record { object = 0; offset = 0; byte = b; kind = kind.Number; stored = stored }
entry_of (cell.Part o d nth) stored = record { object = o; offset = d; byte = nth; kind = kind.Part; stored = stored }
entry_of cell.Unset stored = record { object = 0; offset = 0; byte = 0; kind = kind.Unset; stored = stored }
