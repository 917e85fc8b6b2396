-- The rows of slots (docs/heap.md, "Rows").
use Rattle.std.specs.Prelude.{ℕ, Bool, if◌then◌else◌, List, Option, Some, None}
use Rattle.std.specs.List.{filter_map}
use Rattle.std.specs.FinSet.{contains}
use Rattle.miniheap.specs.Layout.{minis, all_slots}
use Rattle.exact_heap.specs.declared.row.SlotRow.{SlotRow}
use Rattle.exact_heap.specs.History.{ObjectState, Owned, Deferred, Released, History}
use Rattle.exact_heap.specs.Owners.{Owner, last_owner}

abbrev pub state_number : (is_bad : Bool) → ObjectState → ℕ
state_number is_bad Owned = 0
state_number is_bad (Deferred due) = 1
state_number is_bad (Released due) = if is_bad then 3 else 2

abbrev pub owned_row : (slot : ℕ) → (is_bad : Bool) → Owner → SlotRow
owned_row slot is_bad owner = record {
  addr = slot;
  state = state_number is_bad owner.object.state;
  object = owner.number;
  size = owner.object.size;
  front = owner.object.front;
  site = owner.object.site;
  free_site = owner.object.free_site;
  freed = owner.object.freed;
}

abbrev pub bad_row : (slot : ℕ) → SlotRow
bad_row slot = record { addr = slot; state = 4; object = 0; size = 0; front = 0; site = 0; free_site = 0; freed = 0 }

-- a slot that ever had an owner has a row of the last one, and a bad slot has a row
abbrev pub row_if : (slot : ℕ) → (is_bad : Bool) → Option Owner → Option SlotRow
row_if slot is_bad (Some owner) = Some (owned_row slot is_bad owner)
row_if slot is_bad None = if is_bad then Some (bad_row slot) else None

abbrev pub row_at : History → (slot : ℕ) → Option SlotRow
row_at h slot = row_if slot (contains h.bad slot) (last_owner h.objects slot)

-- all rows, by rising address
unfoldable pub rows_of : History → List SlotRow
rows_of h = filter_map (row_at h) (all_slots (minis h.classes))
