-- The image of a heap as it stands (docs/images.md, "Taking").
use Rattle.std.specs.Prelude.{ℕ, ◌&&◌, Bool, false, not, List, map, filter, Option, Some, None}
use Rattle.std.specs.List.{flat_map, range_with_len}
use Rattle.patch_table.specs.Table.{Table}
use Rattle.rv_memory.specs.Memory.{Memory, is_broken}
use Rattle.miniheap.specs.Layout.{heap_from}
use Rattle.miniheap.specs.Slots.{Slots, slot_at, used_of}
use Rattle.miniheap.specs.Sound.{is_held_state}
use Rattle.miniheap.specs.declared.place.Slot.{Slot}
use Rattle.exact_heap.specs.declared.signal.Place.{Place}
use Rattle.exact_heap.specs.declared.row.SlotRow.{SlotRow}
use Rattle.exact_heap.specs.History.{slots_of, canary_in, clock_of}
use Rattle.exact_heap.specs.Placing.{HeapState, byte_at}
use Rattle.exact_heap.specs.Rows.{rows_of}
use Rattle.rv_machine.specs.Guest.{Guest, heap_of}
use Rattle.heap_image.specs.declared.image.Broken.{Broken}
use Rattle.heap_image.specs.Rules.{content_bytes}
use Rattle.heap_image.specs.Snapshot.{Snapshot}

-- ---- contents

-- the bytes from an address on
abbrev pub bytes_at : Memory → (from len : ℕ) → List ℕ
bytes_at memory from len = map (byte_at memory) (range_with_len from len)

-- the bytes of a row's slot, where an object has it
abbrev pub row_contents : Memory → (classes : List ℕ) → SlotRow → List ℕ
row_contents memory classes r = bytes_at memory r.addr (content_bytes classes r)

-- those of all rows, in their order
unfoldable pub contents_of : Memory → (classes : List ℕ) → List SlotRow → List ℕ
contents_of memory classes rows = flat_map (row_contents memory classes) rows

-- ---- broken bytes

abbrev pub is_unheld : Option Slot → Bool
is_unheld None = false
is_unheld (Some t) = not (is_held_state t.state)

-- an address lies in a slot that no object holds, and its byte isn't the canary's
abbrev pub is_broken_in : Slots → Memory → (word address : ℕ) → Bool
is_broken_in slots memory word address = is_unheld (slot_at slots address) && is_broken memory word address

abbrev pub broken_at : Memory → (address : ℕ) → Broken
broken_at memory address = record { addr = address; byte = byte_at memory address }

-- all of them, by rising address
unfoldable pub broken_of : Slots → Memory → (word : ℕ) → List Broken
broken_of slots memory word = map (broken_at memory) (filter (is_broken_in slots memory word) (range_with_len heap_from (used_of slots)))

-- ---- the image

-- of a heap at a place of its run, by its history and the guest's memory
abbrev pub image_of_heap : (tag : ℕ) → Table → Place → HeapState → Snapshot
image_of_heap tag patches place s = record {
  tag = tag;
  seed = s.history.seed;
  place = place;
  clock = clock_of s.history;
  patches = patches;
  miniheaps = s.history.classes;
  rows = rows_of s.history;
  contents = contents_of s.memory s.history.classes (rows_of s.history);
  broken = broken_of (slots_of s.history) s.memory (canary_in s.history);
}

-- of a guest at a place of its run
abbrev pub image_of_guest : (tag : ℕ) → Place → Guest → Snapshot
image_of_guest tag place g = image_of_heap tag g.rules.patches place (heap_of g)
