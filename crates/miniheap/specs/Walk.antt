-- All slots in order of creation (docs/heap-layout.md, "Places").
use Rattle.std.specs.Prelude.{ℕ, Option, get_or, List}
use Rattle.miniheap.specs.Layout.{minis, all_slots}
use Rattle.miniheap.specs.Places.{place_at}
use Rattle.miniheap.specs.Slots.{Slots, slot_at}
use Rattle.miniheap.specs.declared.place.Slot.{Slot}
use Rattle.miniheap.specs.declared.place.SlotPlace.{SlotPlace}

-- the address of slot k of all slots, in order of creation, and 0 from their number on, where no slot lies
abbrev pub address_number : List ℕ → ℕ → ℕ
address_number classes k = get_or (all_slots (minis classes)) k 0

-- slot k of all slots
abbrev pub place_number : List ℕ → ℕ → Option SlotPlace
place_number classes k = place_at classes (address_number classes k)

abbrev pub slot_number : Slots → ℕ → Option Slot
slot_number s k = slot_at s (address_number s.classes k)
