-- What a heap asks of the guest's memory (docs/heap.md, "The guest's memory").
use Rattle.std.specs.Prelude.{◌≡◌, ℕ, ◌^◌, ◌<◌, ◌≤◌, Bool, true, nat_lt, Some, is_some}
use Rattle.std.specs.FinSet.{contains}
use Rattle.rv_memory.specs.Memory.{Memory, page_of}
use Rattle.miniheap.specs.Layout.{heap_from}
use Rattle.miniheap.specs.Slots.{Slots, end_of, slot_at}
use Rattle.miniheap.specs.declared.place.Slot.{Slot}

-- in the heap region exactly the miniheaps are mapped, and they are writable; the pages of the slots that are held are taken
pub record IsHome (s : Slots) (memory : Memory) (taken : ℕ → Bool) : Type 0 where
  pub mapped : (address : ℕ) → heap_from ≤ address → address < 2 ^ 31 → is_some (memory.bytes address) ≡ nat_lt address (end_of s)
  pub writable : (address : ℕ) → heap_from ≤ address → address < end_of s → memory.writable address ≡ true
  pub pages : (address : ℕ) (t : Slot) → slot_at s address ≡ Some t → contains s.held t.addr ≡ true → taken (page_of address) ≡ true
