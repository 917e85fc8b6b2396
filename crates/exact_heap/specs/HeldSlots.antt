-- Slots that objects hold (docs/heap.md, "What always holds").
use Rattle.std.specs.Prelude.{◌≡◌, ℕ, Some}
use Rattle.miniheap.specs.declared.place.Slot.{Slot}
use Rattle.miniheap.specs.declared.place.SlotState.TheVariants.{Held}
use Rattle.miniheap.specs.Slots.{slot_at}
use Rattle.exact_heap.specs.History.{History, slots_of}
use Rattle.exact_heap.specs.Lawful.{IsLawful}
use Rattle.exact_heap.specs.Laws.{HoldsAt}

-- an address that an object holds lies in a held slot
abbrev pub HoldersHaveHeldSlots : Type 0
HoldersHaveHeldSlots = (h : History) (number address : ℕ) (t : Slot) → IsLawful h → HoldsAt h number address → slot_at (slots_of h) address ≡ Some t → t.state ≡ Held
