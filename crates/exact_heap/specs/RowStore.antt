-- The rows of slots, by the numbers of their miniheaps and of the slots in these.
use Rattle.std.specs.Prelude.{◌≡◌, ◌≢◌, ◌==◌, ℕ, ◌/◌, ◌%◌, ◌^◌, ◌<◌, Bool, if◌then◌else◌, List, [], length, get_or, set, count_ones, Option, Some, None}
use Rattle.std.specs.Int.{bit_at}
use Rattle.std.specs.List.{slice_get}
use Rattle.miniheap.specs.declared.place.Slot.{Slot}
use Rattle.miniheap.specs.Layout.{minis}
use Rattle.miniheap.specs.Slots.{slot_at}
use Rattle.exact_heap.specs.declared.rows.Row.{Row}
use Rattle.exact_heap.specs.declared.rows.Chunk.TheInside.{Inside}
use Rattle.exact_heap.specs.Lawful.{places_of}

-- the rows of 64 slots that lie side by side, in order of slot, and a bit for each slot that has one
pub record RowChunk : Type 0 where
  pub marks : ℕ
  pub rows : List Row

abbrev pub no_rows : RowChunk
no_rows = record { marks = 0; rows = [] }

abbrev pub has_row : (marks nth : ℕ) → Bool
has_row marks nth = bit_at marks nth == 1

-- how many slots before one have a row
abbrev pub rank : (marks nth : ℕ) → ℕ
rank marks nth = count_ones (marks % 2 ^ nth)

-- the row of a slot
abbrev pub row_in : RowChunk → (nth : ℕ) → Option Row
row_in chunk nth = if has_row chunk.marks nth then slice_get chunk.rows (rank chunk.marks nth) else None

-- there are 64 bits, and each that is set has its row
abbrev pub have_rows : Inside → Type 0
have_rows chunk = (chunk.marks < 2 ^ 64) × (length chunk.rows.items ≡ count_ones chunk.marks)

-- one slot's row was put
pub record Puts (old new : RowChunk) (nth : ℕ) (row : Row) : Type 0 where
  pub own : row_in new nth ≡ Some row
  pub others : (other : ℕ) → other < 64 → other ≢ nth → row_in new other ≡ row_in old other

-- the rows of some slots of a miniheap that lie side by side
abbrev pub chunk_at : List (List RowChunk) → (mini number : ℕ) → RowChunk
chunk_at rows mini number = get_or (get_or rows mini []) number no_rows

-- those rows become others
abbrev pub with_chunk : List (List RowChunk) → (mini number : ℕ) → RowChunk → List (List RowChunk)
with_chunk rows mini number chunk = set rows mini (set (get_or rows mini []) number chunk)

-- ---- the rows of a heap's slots, 64 of which share a chunk

abbrev pub row_by : List (List RowChunk) → (address : ℕ) → Option Slot → Option Row
row_by rows address None = None
row_by rows address (Some t) = if t.addr == address then row_in (chunk_at rows t.mini (t.nth / 64)) (t.nth % 64) else None

-- the row of the slot at an address, where the miniheaps have these classes
unfoldable pub kept_row : List ℕ → List (List RowChunk) → (address : ℕ) → Option Row
kept_row classes rows address = row_by rows address (slot_at (places_of classes) address)

-- each slot has a chunk
pub record HaveChunks (classes : List ℕ) (rows : List (List RowChunk)) : Type 0 where
  pub minis_known : length rows ≡ length (minis classes)
  pub chunks_known : (address : ℕ) (t : Slot) → slot_at (places_of classes) address ≡ Some t → t.nth / 64 < length (get_or rows t.mini [])

-- one row changed
pub record RowsChange (classes : List ℕ) (old new : List (List RowChunk)) (slot : ℕ) (row : Row) : Type 0 where
  pub rows : (address : ℕ) → kept_row classes new address ≡ (if slot == address then Some row else kept_row classes old address)
  pub chunks : HaveChunks classes old → HaveChunks classes new
