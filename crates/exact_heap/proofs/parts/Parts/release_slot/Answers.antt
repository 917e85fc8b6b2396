use Rattle.std.proofs.Common.{◌≡◌, ℕ, ◌^◌, ◌≤◌, sym, ap, subst, ◌∙◌, Bool, true, Some}
use Rattle.std.specs.FinSet.{contains}
use Rattle.diefast_canary.specs.Canary.{canary_byte}
use Rattle.rv_memory.specs.Memory.{Memory, is_mapped, is_taken, filled}
use Rattle.rv_memory.specs.Spaces.{memory_of, taken_of}
use Rattle.miniheap.specs.declared.place.Slot.{Slot}
use Rattle.miniheap.specs.declared.place.SlotState.TheVariants.{Held}
use Rattle.miniheap.specs.Slots.{Slots, nth_slot, slot_at, released_at, IsSlotIn, IsSlotOf, IsInOrder}
use Rattle.miniheap.specs.Sound.{is_held_state}
use Rattle.exact_heap.proofs.SlotStates.{in_sets}
use Rattle.exact_heap.specs.Home.{IsHome}
use Rattle.miniheap.specs.Laws.{SlotLaws}
use Rattle.exact_heap.proofs.RowStores.{known_addr, known_found}
use Rattle.exact_heap.proofs.SlotPlaces.{slot_in_is, found_addr}
use Rattle.exact_heap.proofs.Sound.{slot_class}
use Rattle.exact_heap.proofs.Homes.{slot_in_heap, heap_mapped, heap_taken, home_keeps, home_released, home_filled}
use Rattle.exact_heap.proofs.parts.Parts.release_slot.Goals as goal

slot_mapped : SlotLaws → (s : Slots) (a n : ℕ) (t : Slot) (m : Memory) (taken : ℕ → Bool) → IsInOrder s → IsHome s m taken → slot_at s a ≡ Some t → IsSlotIn s a Held → n ≡ 2 ^ t.class → is_mapped m a n ≡ true
slot_mapped laws s a n t m taken ok home e h k =
    subst (λ (x : ℕ). is_mapped m x n ≡ true) (found_addr s a t Held e h) (subst (λ (x : ℕ). is_mapped m t.addr x ≡ true) (sym k) (heap_mapped s m taken t.addr (2 ^ t.class) ok home (slot_in_heap laws s a t e)))

-- the slot as it stands
abbrev as_it_stands : Slots → Slot → Slot
as_it_stands s t = nth_slot s t.mini t.nth

-- its bytes
wide : (s : Slots) (t : Slot) (n : ℕ) → IsSlotOf s t → n ≡ 2 ^ t.class → n ≡ 2 ^ (as_it_stands s t).class
wide s t n k e = e ∙ ap (λ (c : ℕ). 2 ^ c) k.class_is

pub slot_bytes-requires : goal.slot_bytes-requires
slot_bytes-requires c =
    let s : Slots = c.args.self.now.slots.grid in
    let t : Slot = c.args.slot.now in
    subst (λ (n : ℕ). n ≤ 22) (sym c.requires.known.class_is) (slot_class c.slot_laws.ensures s t.addr (as_it_stands s t) c.requires.order (known_found c.slot_laws.ensures s t c.requires.known)).1

pub paint-requires-clause-mapped : goal.paint-requires-clause-mapped
paint-requires-clause-mapped c =
    let s : Slots = c.args.self.now.slots.grid in
    let t : Slot = c.args.slot.now in
    slot_mapped c.slot_laws.ensures s t.addr c.slot_bytes.result (as_it_stands s t) (memory_of c.args.space.now) (taken_of c.args.space.now) c.requires.order c.requires.home (known_found c.slot_laws.ensures s t c.requires.known) c.requires.held (wide s t c.slot_bytes.result c.requires.known c.slot_bytes.ensures)

pub paint-requires-clause-sure : goal.paint-requires-clause-sure
paint-requires-clause-sure c =
    let s : Slots = c.args.self.now.slots.grid in
    let t : Slot = c.args.slot.now in
    let u : Slot = as_it_stands s t in
    let e : slot_at s t.addr ≡ Some u = known_found c.slot_laws.ensures s t c.requires.known in
    let a : u.addr ≡ t.addr = sym (known_addr s t c.requires.known) in
    let h : contains s.held u.addr ≡ true = ap (contains s.held) a ∙ in_sets s t.addr ∙ ap is_held_state (slot_in_is s t.addr Held c.requires.held).1 in
    subst (λ (x : ℕ). is_taken (taken_of c.args.space.now) x c.slot_bytes.result ≡ true) a
    (subst (λ (n : ℕ). is_taken (taken_of c.args.space.now) u.addr n ≡ true) (sym (wide s t c.slot_bytes.result c.requires.known c.slot_bytes.ensures)) (heap_taken c.slot_laws.ensures s (memory_of c.args.space.now) (taken_of c.args.space.now) t.addr u c.requires.home e h))

pub returns-clause-home : goal.returns-clause-home
returns-clause-home c =
    let s : Slots = c.args.self.now.slots.grid in
    let t : Slot = c.args.slot.now in
    let m : Memory = memory_of c.args.space.now in
    let mapped : is_mapped m t.addr c.slot_bytes.result ≡ true =
    slot_mapped c.slot_laws.ensures s t.addr c.slot_bytes.result (as_it_stands s t) m (taken_of c.args.space.now) c.requires.order c.requires.home (known_found c.slot_laws.ensures s t c.requires.known) c.requires.held (wide s t c.slot_bytes.result c.requires.known c.slot_bytes.ensures) in
    subst (λ (g : Slots). IsHome g (memory_of c.paint.new.self) (taken_of c.paint.new.self)) (sym c.release.ensures)
    (subst (λ (x : Memory). IsHome (released_at s t.addr) x (taken_of c.paint.new.self)) (sym c.paint.ensures.painted)
    (home_keeps (released_at s t.addr) (filled m t.addr c.slot_bytes.result (canary_byte c.canary.result)) (taken_of c.args.space.now) (taken_of c.paint.new.self) c.paint.ensures.taken
    (home_released s (filled m t.addr c.slot_bytes.result (canary_byte c.canary.result)) (taken_of c.args.space.now) t.addr
    (home_filled s m (taken_of c.args.space.now) t.addr c.slot_bytes.result (canary_byte c.canary.result) mapped c.requires.home))))
