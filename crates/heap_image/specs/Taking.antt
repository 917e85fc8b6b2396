-- What is taken from a part of a heap's slots, and what of its memory that asks for.
use Rattle.std.specs.Prelude.{◌≡◌, ℕ, ◌^◌, List, map, filter, Some, IsTrue}
use Rattle.std.specs.List.{range_with_len}
use Rattle.rv_memory.specs.Memory.{Memory, is_mapped, is_broken}
use Rattle.miniheap.specs.Slots.{Slots, slot_at}
use Rattle.miniheap.specs.declared.place.Slot.{Slot}
use Rattle.heap_image.specs.declared.image.Broken.{Broken}
use Rattle.heap_image.specs.Taken.{is_broken_in, broken_at}

-- each slot is mapped
abbrev pub AreMapped : Slots → Memory → Type 0
AreMapped slots memory = (address : ℕ) (t : Slot) → slot_at slots address ≡ Some t → IsTrue (is_mapped memory t.addr (2 ^ t.class))

-- the bytes of a span that aren't the canary's
unfoldable pub breaks_in : Memory → (word from len : ℕ) → List Broken
breaks_in memory word from len = map (broken_at memory) (filter (is_broken memory word) (range_with_len from len))

-- the broken bytes of a span, by the slots that it lies in
unfoldable pub broken_within : Slots → Memory → (word from len : ℕ) → List Broken
broken_within slots memory word from len = map (broken_at memory) (filter (is_broken_in slots memory word) (range_with_len from len))
