use Rattle.std.proofs.Common.{◌≡◌, ℕ, ◌+◌, ◌^◌, ◌<◌, sym, ap, subst, ◌∙◌, refl, arith, List, Some, All}
use Rattle.std.specs.List.{AllByRecursion}
use Rattle.std.proofs.lemmas.Option.{same_Some}
use Rattle.deferral_queue.specs.declared.Due.{Due}
use Rattle.deferral_queue.specs.Deferrals.{Deferrals, sorted_dues}
use Rattle.diefast_canary.specs.Canary.{canary_byte}
use Rattle.rv_memory.specs.Memory.{Memory, filled}
use Rattle.rv_memory.specs.Spaces.{memory_of}
use Rattle.miniheap.specs.declared.place.Slot.{Slot}
use Rattle.miniheap.specs.declared.place.SlotState.TheVariants.{Held}
use Rattle.miniheap.specs.Slots.{slot_at, released_at, IsSlotIn}
use Rattle.miniheap.specs.WordList.{HasSpent, canary_of}
use Rattle.exact_heap.specs.declared.parts.Parts.{Parts}
use Rattle.exact_heap.specs.History.{Released, History, slot_of, canary_in, clock_of, dues_from}
use Rattle.exact_heap.specs.Stands.{PartsStandFor, IsSound, state_at}
use Rattle.exact_heap.proofs.SlotPlaces.{found_addr, not_nowhere}
use Rattle.exact_heap.proofs.Sound.{sound_order, sound_map, sound_due_held}
use Rattle.exact_heap.proofs.Standing.{clock_is, with_change}
use Rattle.exact_heap.proofs.Freed.{DueAt, due_at, released_stands, ObjectSlot, object_slot}
use Rattle.exact_heap.proofs.Dues.{sorted_all, all_recursive}
use Rattle.exact_heap.proofs.States.{release_step, release_none}
use Rattle.exact_heap.proofs.parts.Parts.release_next.Goals as goal

none_due : (p : Parts) (h : History) → PartsStandFor p h → All (λ (d : Due). p.counts.clock < d.due) p.queue.dues → AllByRecursion (λ (d : Due). clock_of h < d.due) (dues_from 0 h.objects)
none_due p h st all =
    sorted_all (λ d. clock_of h < d.due) (dues_from 0 h.objects)
    (subst (λ (n : ℕ). AllByRecursion (λ (d : Due). n < d.due) (sorted_dues (dues_from 0 h.objects))) (clock_is p h st)
    (all_recursive (λ (d : Due). p.counts.clock < d.due) (sorted_dues (dues_from 0 h.objects)) (subst (λ (ds : List Due). All (λ (d : Due). p.counts.clock < d.due) ds) st.dues all)))

pub returns-in_default-clause-none : goal.returns-in_default-clause-none
returns-in_default-clause-none c h st = release_none (state_at h c.args.space.now) (none_due c.args.self.now h st (c.in_default.ensures.none.0 refl))

pub returns-in_default-clause-sound : goal.returns-in_default-clause-sound
returns-in_default-clause-sound c = subst (λ (q : Deferrals). IsSound (record c.args.self.now { queue = q })) (sym c.in_default.ensures.unchanged) c.requires.sound

pub unreachable-requires : goal.unreachable-requires
unreachable-requires c =
    not_nowhere c.args.self.now.slots.grid c.in-Some.due.addr Held (sym c.slot_at.ensures.slot ∙ c.in_default-slot_at.is) (sound_due_held c.args.self.now c.in-Some.due c.pop_due.new.self.dues c.requires.sound c.in-Some.ensures.first)

pub release_slot-requires-clause-order : goal.release_slot-requires-clause-order
release_slot-requires-clause-order c = sound_order c.args.self.now c.requires.sound

pub release_slot-requires-clause-held : goal.release_slot-requires-clause-held
release_slot-requires-clause-held c =
    let held = sound_due_held c.args.self.now c.in-Some.due c.pop_due.new.self.dues c.requires.sound c.in-Some.ensures.first in
    subst (λ (a : ℕ). IsSlotIn c.args.self.now.slots.grid a Held) (sym (found_addr c.args.self.now.slots.grid c.in-Some.due.addr c.in-Some-slot_at.slot Held (sym c.slot_at.ensures.slot ∙ c.in-Some-slot_at.is) held)) held

next_stands : (p q : Parts) (h : History) (d : Due) (slot : ℕ) (queue : Deferrals) → PartsStandFor p h → (k : DueAt p h d queue.dues) → queue.spare ≡ p.queue.spare + 1 → slot ≡ d.addr → q ≡ record p { slots = record p.slots { grid = released_at p.slots.grid slot }; queue = queue }
    → PartsStandFor q (with_change h k.entry.first (record k.entry.object { state = Released d.due }) k.entry.last)
next_stands p q h d slot queue st k spare at e =
    subst (λ (x : Parts). PartsStandFor x (with_change h k.entry.first (record k.entry.object { state = Released d.due }) k.entry.last))
    (sym (e ∙ ap (λ (a : ℕ). record p { slots = record p.slots { grid = released_at p.slots.grid a }; queue = queue }) at)) (released_stands p h d queue.dues queue st k refl spare)

next_memory : (p : Parts) (h : History) (d : Due) (t : Slot) (rest : List Due) (m n : Memory) → PartsStandFor p h → (k : DueAt p h d rest) → slot_at p.slots.grid d.addr ≡ Some t → t.addr ≡ d.addr
    → ((seed spent : ℕ) → HasSpent p.words seed spent → n ≡ filled m t.addr (2 ^ t.class) (canary_byte (canary_of seed)))
    → n ≡ filled m (slot_of k.entry.object) (2 ^ k.entry.object.class) (canary_byte (canary_in h))
next_memory p h d t rest m n st k found at painted =
    let o : ObjectSlot p.slots.grid k.entry.object = object_slot p h k.entry.first k.entry.object k.entry.last st k.entry.parts in
    let same : t ≡ o.slot = same_Some t o.slot (sym found ∙ ap (slot_at p.slots.grid) (sym k.slot) ∙ o.found) in
    painted h.seed h.spent st.words
    ∙ ap (λ (x : ℕ). filled m t.addr (2 ^ x) (canary_byte (canary_in h))) (ap (λ (x : Slot). x.class) same ∙ o.class) ∙ ap (λ (x : ℕ). filled m x (2 ^ k.entry.object.class) (canary_byte (canary_in h))) (at ∙ sym k.slot)

pub returns-clause-one : goal.returns-clause-one
returns-clause-one c h st =
    let p : Parts = c.args.self.now in
    let d : Due = c.in-Some.due in
    let t : Slot = c.in-Some-slot_at.slot in
    let m : Memory = memory_of c.args.space.now in
    let k : DueAt p h d c.pop_due.new.self.dues = due_at p h d c.pop_due.new.self.dues st c.in-Some.ensures.first in
    let found : slot_at p.slots.grid d.addr ≡ Some t = sym c.slot_at.ensures.slot ∙ c.in-Some-slot_at.is in
    let at : t.addr ≡ d.addr = found_addr p.slots.grid d.addr t Held found k.held in
    record {
      next = record { history = with_change h k.entry.first (record k.entry.object { state = Released d.due }) k.entry.last; memory = filled m (slot_of k.entry.object) (2 ^ k.entry.object.class) (canary_byte (canary_in h)) };
      is_at = record {
        stands = next_stands p c.release_slot.new.self h d t.addr c.pop_due.new.self st k c.in-Some.ensures.spare at c.release_slot.ensures.rest;
        bytes = next_memory p h d t c.pop_due.new.self.dues m (memory_of c.release_slot.new.space) st k found at c.release_slot.ensures.painted;
      };
      same = release_step (state_at h c.args.space.now) k.entry.first k.entry.object k.entry.last d.due k.entry.parts k.entry.state (omega (arith, c.in-Some.ensures.due, clock_is p h st));
    }

pub returns-clause-sound : goal.returns-clause-sound
returns-clause-sound c =
    sound_map c.args.self.now c.release_slot.new.self (λ h st.
    let p : Parts = c.args.self.now in
    let d : Due = c.in-Some.due in
    let t : Slot = c.in-Some-slot_at.slot in
    let k : DueAt p h d c.pop_due.new.self.dues = due_at p h d c.pop_due.new.self.dues st c.in-Some.ensures.first in
    let at : t.addr ≡ d.addr = found_addr p.slots.grid d.addr t Held (sym c.slot_at.ensures.slot ∙ c.in-Some-slot_at.is) k.held in
    (with_change h k.entry.first (record k.entry.object { state = Released d.due }) k.entry.last, next_stands p c.release_slot.new.self h d t.addr c.pop_due.new.self st k c.in-Some.ensures.spare at c.release_slot.ensures.rest)) c.requires.sound
