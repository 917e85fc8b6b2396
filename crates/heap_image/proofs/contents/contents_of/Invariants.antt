use Rattle.std.proofs.Common.{◌≡◌, ◌<◌, ℕ, take, slice_index_or}
use Rattle.std.specs.List.{flat_map}
use Rattle.rv_memory.specs.Spaces.{memory_of}
use Rattle.exact_heap.specs.declared.row.SlotRow.{SlotRow}
use Rattle.heap_image.specs.Laws.{IsTyped}
use Rattle.heap_image.specs.Taken.{row_contents}
use Rattle.heap_image.proofs.contents.contents_of.Given as goal

abbrev pub invariant-loop-row : goal.invariant-loop-row
invariant-loop-row l = record {
  contents : l.contents.items ≡ flat_map (row_contents (memory_of l.space) l.grid.classes) (take l.row-index l.rows);
  typed : (k : ℕ) (d : SlotRow) → k < l.row-index → IsTyped (slice_index_or l.rows k d);
}
