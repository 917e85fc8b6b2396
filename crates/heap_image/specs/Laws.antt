-- Laws of images (docs/images.md, "Taking").
use Rattle.std.specs.Prelude.{◌≡◌, ℕ, ◌<◌, ◌^◌, true, is_some}
use Rattle.std.specs.List.{AllByRecursion}
use Rattle.patch_table.specs.Table.{Table}
use Rattle.rv_memory.specs.Memory.{IsBounded}
use Rattle.miniheap.specs.Slots.{slot_at}
use Rattle.exact_heap.specs.declared.signal.Place.{Place}
use Rattle.exact_heap.specs.declared.row.SlotRow.{SlotRow}
use Rattle.exact_heap.specs.History.{slots_of, clock_of}
use Rattle.exact_heap.specs.Lawful as heap
use Rattle.exact_heap.specs.Placing.{HeapState}
use Rattle.exact_heap.specs.Rows.{rows_of}
use Rattle.heap_image.specs.Lawful.{IsPlace, IsLawful}
use Rattle.heap_image.specs.Taken.{is_unheld, image_of_heap}

-- the fields of a row are numbers of their types
pub record IsTyped (r : SlotRow) : Type 0 where
  pub addr : r.addr < 2 ^ 32
  pub state : r.state < 2 ^ 8
  pub object : r.object < 2 ^ 64
  pub size : r.size < 2 ^ 32
  pub front : r.front < 2 ^ 32
  pub site : r.site < 2 ^ 32
  pub free_site : r.free_site < 2 ^ 32
  pub freed : r.freed < 2 ^ 64

-- a lawful history whose numbers are those of a heap, in a memory that has its slots
pub record IsHeapState (s : HeapState) : Type 0 where
  pub lawful : heap.IsLawful s.history
  pub seed : s.history.seed < 2 ^ 64
  pub clock : clock_of s.history < 2 ^ 64
  pub rows : AllByRecursion IsTyped (rows_of s.history)
  pub bounded : IsBounded s.memory
  pub mapped : (address : ℕ) → is_unheld (slot_at (slots_of s.history) address) ≡ true → is_some (s.memory.bytes address) ≡ true

-- its image keeps the rules of every image
abbrev pub HeapImagesAreLawful : Type 0
HeapImagesAreLawful = (tag : ℕ) (patches : Table) (place : Place) (s : HeapState) → tag < 2 ^ 64 → IsPlace place → IsHeapState s → IsLawful (image_of_heap tag patches place s)
