-- What stores keep, and what a heap stands for.
use Rattle.std.proofs.Common.{◌≡◌, ◌≤◌, ◌^◌, sym, subst, ◌∙◌, arith, Bool, true, false, refl, length}
use Rattle.std.specs.Prelude.{is_some}
use Rattle.rv_memory.specs.Memory.{Memory, page_of, is_mapped, with_bytes}
use Rattle.rv_memory.specs.Spaces.{memory_of, taken_of}
use Rattle.rv_memory.specs.Laws.{at_each, from_each}
use Rattle.miniheap.specs.Laws.{SlotLaws}
use Rattle.miniheap.specs.Slots.{end_of}
use Rattle.exact_heap.specs.Home.{IsHome}
use Rattle.exact_heap.specs.Heaps.{IsSpent, HasHome, slots_in}
use Rattle.exact_heap.specs.Laws.{StoresKeepHome, MappingKeepsHome, HeapsAreLawful}
use Rattle.exact_heap.specs.Mapped.{SlotsAreMapped}
use Rattle.exact_heap.proofs.Homes.{end_below, slot_in_heap, heap_mapped, heap_writable, home_keeps, home_filled}
use Rattle.exact_heap.proofs.Sound.{sound_order}

pub stores_keep_home : StoresKeepHome
unfolding HasHome
stores_keep_home heap old new from bytes bounded lawful stored keeps home lives =
    let mapped : is_mapped (memory_of old) from (length bytes) ≡ true =
    from_each (λ a. is_some ((memory_of old).bytes a)) from (length bytes) (λ a lo hi. bounded.writable_mapped a (at_each (memory_of old).writable from (length bytes) a lawful lo hi)) in
    subst (λ (m : Memory). IsHome heap.parts.slots.grid m (taken_of new)) (sym stored)
    (home_keeps heap.parts.slots.grid (with_bytes (memory_of old) from bytes) (taken_of old) (taken_of new) keeps (home_filled heap.parts.slots.grid (memory_of old) (taken_of old) from (length bytes) _ mapped (home lives)))

-- the miniheaps end before the region does
pub mapping_keeps_home : MappingKeepsHome
unfolding HasHome
mapping_keeps_home heap old new mapped writable keeps home lives =
    let w : IsHome heap.parts.slots.grid (memory_of old) (taken_of old) = home lives in
    let top : end_of heap.parts.slots.grid ≤ 0x7fe00000 = end_below heap.parts.slots.grid (sound_order heap.parts heap.sound) in
    record {
      mapped = λ a lo hi. mapped a lo hi ∙ w.mapped a lo hi;
      writable = λ a lo hi. writable a lo (omega (arith, hi, top)) ∙ w.writable a lo hi;
      pages = λ a t e h. keeps (page_of a) (w.pages a t e h);
    }

not_spent : (b : Bool) → (b ≡ true → ⊥) → b ≡ false
not_spent true h = absurd (h refl)
not_spent false h = refl

pub slots_are_mapped : SlotLaws → SlotsAreMapped
unfolding IsSpent HasHome slots_in
slots_are_mapped laws heap space a t lives home e =
    let w : IsHome heap.parts.slots.grid (memory_of space) (taken_of space) = home (not_spent heap.spent lives) in
    let i = slot_in_heap laws heap.parts.slots.grid a t e in
    (heap_mapped heap.parts.slots.grid (memory_of space) (taken_of space) t.addr (2 ^ t.class) (sound_order heap.parts heap.sound) w i, heap_writable heap.parts.slots.grid (memory_of space) (taken_of space) t.addr (2 ^ t.class) w i)

pub heaps_are_lawful : HeapsAreLawful
heaps_are_lawful heap h st = st.parts.lawful
