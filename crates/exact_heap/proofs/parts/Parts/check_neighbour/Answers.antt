use Rattle.std.proofs.Common.{◌≡◌, ℕ, ◌+◌, ◌^◌, ◌<◌, sym, ap, subst, ◌∙◌, arith, rules, Some, None, Option, refl, true, false, IsSomeAnd, Bool}
use Rattle.miniheap.specs.Slots.{slot_at, is_free_state}
use Rattle.miniheap.specs.declared.place.Slot.{Slot}
use Rattle.miniheap.specs.declared.place.SlotState.{SlotState}
use Rattle.miniheap.specs.declared.place.SlotState.TheVariants.{Free}
use Rattle.miniheap.specs.WordList.{canary_of}
use Rattle.rv_memory.specs.Memory.{first_broken, is_mapped}
use Rattle.rv_memory.specs.Spaces.{memory_of, taken_of}
use Rattle.exact_heap.specs.Placing.{HeapState, break_in}
use Rattle.exact_heap.specs.Freeing.{signalled_if, neighbour_checked}
use Rattle.exact_heap.specs.Stands.{PartsStandFor, state_at}
use Rattle.exact_heap.proofs.Sound.{sound_order, slot_class}
use Rattle.exact_heap.proofs.Homes.{heap_mapped, slot_in_heap}
use Rattle.exact_heap.proofs.parts.Parts.check_neighbour.Goals as goal

pub slot_bytes-requires : goal.slot_bytes-requires
slot_bytes-requires c =
    let k : slot_at c.args.self.now.slots.grid c.in-Some.slot.addr ≡ Some c.in-Some.slot = c.requires.known c.in-Some.slot c.in-Some.is in
    (slot_class c.slot_laws.ensures c.args.self.now.slots.grid c.in-Some.slot.addr c.in-Some.slot (sound_order c.args.self.now c.requires.sound) k).1

pub first_break_at-requires : goal.first_break_at-requires
first_break_at-requires c =
    let k : slot_at c.args.self.now.slots.grid c.in-Some.slot.addr ≡ Some c.in-Some.slot = c.requires.known c.in-Some.slot c.in-Some.is in
    subst (λ (n : ℕ). is_mapped (memory_of c.args.space.now) c.in-Some.slot.addr n ≡ true) (sym c.slot_bytes.ensures)
    (heap_mapped c.args.self.now.slots.grid (memory_of c.args.space.now) (taken_of c.args.space.now) c.in-Some.slot.addr (2 ^ c.in-Some.slot.class) (sound_order c.args.self.now c.requires.sound) c.requires.home
    (slot_in_heap c.slot_laws.ensures c.args.self.now.slots.grid c.in-Some.slot.addr c.in-Some.slot k))

-- what the check of a free neighbour comes to
checked : (s : HeapState) (o : Option Slot) (t : Slot) → o ≡ Some t → t.state ≡ Free → (b : Option ℕ) → break_in s t.addr t.class ≡ b → neighbour_checked s o ≡ signalled_if t.addr s b
checked s o t e f b g =
    ap (neighbour_checked s) e ∙ ap (λ (u : SlotState). Rattle.std.proofs.Common.cond (is_free_state u) (signalled_if t.addr s (break_in s t.addr t.class)) s) f ∙ ap (signalled_if t.addr s) g

pub spoil-requires-clause-free : goal.spoil-requires-clause-free
spoil-requires-clause-free c =
    let k : slot_at c.args.self.now.slots.grid c.in-Some.slot.addr ≡ Some c.in-Some.slot = c.requires.known c.in-Some.slot c.in-Some.is in
    let f : c.in-Some.slot.state ≡ Free = search rules in
    subst (λ (o : Option Slot). IsSomeAnd o (λ t. (t.addr ≡ c.in-Some.slot.addr) × (t.state ≡ Free))) (sym k) (refl, f)

pub returns-in-Some-first_break_at-clause-stands : goal.returns-in-Some-first_break_at-clause-stands
returns-in-Some-first_break_at-clause-stands c h st =
    let f : c.in-Some.slot.state ≡ Free = search rules in
    let t : Slot = c.in-Some.slot in
    let word : c.canary.result ≡ canary_of h.seed = c.canary.ensures h.seed h.spent st.words in
    let b : first_broken (memory_of c.args.space.now) (canary_of h.seed) t.addr (2 ^ t.class) ≡ Some c.in-Some-first_break_at.broken =
    ap (λ (w : ℕ). first_broken (memory_of c.args.space.now) w t.addr (2 ^ t.class)) (sym word) ∙ ap (first_broken (memory_of c.args.space.now) c.canary.result t.addr) (sym c.slot_bytes.ensures) ∙ sym c.first_break_at.ensures.first ∙ c.in-Some-first_break_at.is in
    subst (λ (s : HeapState). PartsStandFor c.spoil.new.self s.history) (sym (checked (state_at h c.args.space.now) c.args.neighbour t c.in-Some.is f (Some c.in-Some-first_break_at.broken) b)) (c.spoil.ensures.stands h st)

pub returns-in_default-first_break_at-clause-stands : goal.returns-in_default-first_break_at-clause-stands
returns-in_default-first_break_at-clause-stands c h st =
    let f : c.in-Some.slot.state ≡ Free = search rules in
    let t : Slot = c.in-Some.slot in
    let word : c.canary.result ≡ canary_of h.seed = c.canary.ensures h.seed h.spent st.words in
    let b : first_broken (memory_of c.args.space.now) (canary_of h.seed) t.addr (2 ^ t.class) ≡ None =
    ap (λ (w : ℕ). first_broken (memory_of c.args.space.now) w t.addr (2 ^ t.class)) (sym word) ∙ ap (first_broken (memory_of c.args.space.now) c.canary.result t.addr) (sym c.slot_bytes.ensures) ∙ sym c.first_break_at.ensures.first ∙ c.in_default-first_break_at.is in
    subst (λ (s : HeapState). PartsStandFor c.args.self.now s.history) (sym (checked (state_at h c.args.space.now) c.args.neighbour t c.in-Some.is f None b)) st
