use Rattle.std.proofs.Common.{◌≡◌, ℕ, ◌+◌, ◌^◌, sym, ap, subst, ◌∙◌, arith}
use Rattle.std.specs.Option.{is_some}
use Rattle.std.proofs.lemmas.Option.{same_Some}
use Rattle.diefast_canary.specs.Canary.{canary_byte}
use Rattle.rv_memory.specs.Memory.{Memory, filled}
use Rattle.rv_memory.specs.Spaces.{memory_of}
use Rattle.miniheap.specs.declared.place.SlotState.TheVariants.{Held}
use Rattle.miniheap.specs.Slots.{nth_slot, slot_at, released_at, IsSlotIn, IsSlotOf, IsInOrder}
use Rattle.miniheap.specs.WordList.{HasSpent, canary_of}
use Rattle.miniheap.specs.declared.place.Slot.{Slot}
use Rattle.exact_heap.specs.declared.parts.Parts.{Parts}
use Rattle.exact_heap.specs.declared.rows.Row.{Row}
use Rattle.exact_heap.specs.declared.slot_table.SlotTable.{SlotTable}
use Rattle.exact_heap.specs.History.{History, slot_of, canary_in, clock_of}
use Rattle.exact_heap.specs.Owners.{Owner, changed_at}
use Rattle.exact_heap.specs.Freeing.{freed_object, object_freed}
use Rattle.exact_heap.specs.RowStore.{RowsChange}
use Rattle.exact_heap.specs.Stands.{PartsStandFor, IsAt, state_at}
use Rattle.miniheap.specs.Laws.{SlotLaws}
use Rattle.exact_heap.proofs.RowStores.{known_found}
use Rattle.exact_heap.proofs.Sound.{sound_order, sound_map, sound_frees, sound_chunks, sound_owner_held}
use Rattle.exact_heap.proofs.Freed.{OwnerAt, owner_at, same_owner, freed_now, freed_row, ObjectSlot, object_slot}
use Rattle.exact_heap.proofs.parts.Parts.free_now.Goals as goal

abbrev counted_with : Parts → SlotTable → Parts
counted_with p slots = record p { slots = slots; counts = record p.counts { frees = p.counts.frees + 1 } }

-- one free more is counted, and a row has changed
counted_is : (p : Parts) (slots : SlotTable) → slots ≡ record p.slots { rows = slots.rows } → counted_with p slots ≡ record p { slots = record p.slots { rows = slots.rows }; counts = record p.counts { frees = p.counts.frees + 1 } }
counted_is p slots e = ap (counted_with p) e

pub set_row-requires-clause-chunks : goal.set_row-requires-clause-chunks
set_row-requires-clause-chunks c = sound_chunks c.args.self.now c.requires.sound

pub set_row-requires-clause-there : goal.set_row-requires-clause-there
set_row-requires-clause-there c = ap is_some c.requires.row

pub overflow_add-self : goal.overflow_add-self
overflow_add-self c = record { fits = omega (arith, sound_frees c.args.self.now c.requires.sound, c.requires.clock) }

pub release_slot-requires-clause-order : goal.release_slot-requires-clause-order
release_slot-requires-clause-order c = subst (λ (q : Parts). IsInOrder q.slots.grid) (sym (counted_is c.args.self.now c.set_row.new.self c.set_row.ensures.rest)) (sound_order c.args.self.now c.requires.sound)

pub release_slot-requires-clause-known : goal.release_slot-requires-clause-known
release_slot-requires-clause-known c = subst (λ (q : Parts). IsSlotOf q.slots.grid c.args.slot.now) (sym (counted_is c.args.self.now c.set_row.new.self c.set_row.ensures.rest)) c.requires.known

pub release_slot-requires-clause-held : goal.release_slot-requires-clause-held
release_slot-requires-clause-held c =
    subst (λ (q : Parts). IsSlotIn q.slots.grid c.args.slot.now.addr Held) (sym (counted_is c.args.self.now c.set_row.new.self c.set_row.ensures.rest)) (sound_owner_held c.args.self.now c.args.slot.now.addr c.args.row.now c.requires.sound c.requires.row c.requires.owned)

-- what is kept after the row and the slot have changed
after : (p q r : Parts) (a : ℕ) → q ≡ record p { slots = record p.slots { rows = q.slots.rows }; counts = record p.counts { frees = p.counts.frees + 1 } } → r ≡ record q { slots = record q.slots { grid = released_at q.slots.grid a } } → r ≡ record p { slots = record { grid = released_at p.slots.grid a; rows = q.slots.rows }; counts = record p.counts { frees = p.counts.frees + 1 } }
after p q r a e f = f ∙ ap (λ (x : Parts). record x { slots = record { grid = released_at x.slots.grid a; rows = q.slots.rows } }) e

now_stands : (p q r : Parts) (a site : ℕ) (row : Row) (h : History) (st : PartsStandFor p h) (w : OwnerAt h a row) → q ≡ record p { slots = record p.slots { rows = q.slots.rows }; counts = record p.counts { frees = p.counts.frees + 1 } } → r ≡ record q { slots = record q.slots { grid = released_at q.slots.grid a } }
    → RowsChange p.slots.grid.classes p.slots.rows q.slots.rows a (freed_row row p.counts.clock site) → PartsStandFor r (record h { objects = changed_at (freed_object (clock_of h) 0 site) w.owner.number h.objects })
now_stands p q r a site row h st w e f change =
    subst (λ (x : Parts). PartsStandFor x (record h { objects = changed_at (freed_object (clock_of h) 0 site) w.owner.number h.objects })) (sym (after p q r a e f)) (freed_now p h a row site q.slots.rows st w change)

now_memory : SlotLaws → (p q : Parts) (t : Slot) (row : Row) (h : History) (m n : Memory) (st : PartsStandFor p h) (w : OwnerAt h t.addr row) → IsSlotOf p.slots.grid t → q ≡ record p { slots = record p.slots { rows = q.slots.rows }; counts = record p.counts { frees = p.counts.frees + 1 } }
    → ((seed spent : ℕ) → HasSpent q.words seed spent → n ≡ filled m t.addr (2 ^ t.class) (canary_byte (canary_of seed)))
    → n ≡ filled m (slot_of w.owner.object) (2 ^ w.owner.object.class) (canary_byte (canary_in h))
now_memory laws p q t row h m n st w known e painted =
    let k : ObjectSlot p.slots.grid w.owner.object = object_slot p h w.first w.owner.object w.last st w.parts in
    let same : nth_slot p.slots.grid t.mini t.nth ≡ k.slot = same_Some (nth_slot p.slots.grid t.mini t.nth) k.slot (sym (known_found laws p.slots.grid t known) ∙ ap (slot_at p.slots.grid) (sym w.slot) ∙ k.found) in
    let class : t.class ≡ w.owner.object.class = known.class_is ∙ ap (λ (u : Slot). u.class) same ∙ k.class in
    painted h.seed h.spent (subst (λ (x : Parts). HasSpent x.words h.seed h.spent) (sym e) st.words)
    ∙ ap (λ (x : ℕ). filled m t.addr (2 ^ x) (canary_byte (canary_in h))) class ∙ ap (λ (x : ℕ). filled m x (2 ^ w.owner.object.class) (canary_byte (canary_in h))) (sym w.slot)

pub returns-clause-freed : goal.returns-clause-freed
returns-clause-freed c h owner st is =
    let w : OwnerAt h c.args.slot.now.addr c.args.row.now = owner_at c.args.self.now h c.args.slot.now.addr c.args.row.now st c.requires.row c.requires.owned in
    subst (λ (x : Owner). IsAt (object_freed 0 c.args.free_site x (state_at h c.args.space.now)) c.release_slot.new.self (memory_of c.release_slot.new.space)) (same_owner h c.args.slot.now.addr c.args.row.now w owner is)
    (record {
      stands = now_stands c.args.self.now (counted_with c.args.self.now c.set_row.new.self) c.release_slot.new.self c.args.slot.now.addr c.args.free_site c.args.row.now h st w (counted_is c.args.self.now c.set_row.new.self c.set_row.ensures.rest) c.release_slot.ensures.rest c.set_row.ensures.changes;
      bytes = now_memory c.slot_laws.ensures c.args.self.now (counted_with c.args.self.now c.set_row.new.self) c.args.slot.now c.args.row.now h (memory_of c.args.space.now) (memory_of c.release_slot.new.space) st w c.requires.known (counted_is c.args.self.now c.set_row.new.self c.set_row.ensures.rest) c.release_slot.ensures.painted;
    })

pub returns-clause-sound : goal.returns-clause-sound
returns-clause-sound c =
    sound_map c.args.self.now c.release_slot.new.self (λ h st.
    let w : OwnerAt h c.args.slot.now.addr c.args.row.now = owner_at c.args.self.now h c.args.slot.now.addr c.args.row.now st c.requires.row c.requires.owned in (
      record h { objects = changed_at (freed_object (clock_of h) 0 c.args.free_site) w.owner.number h.objects },
      now_stands c.args.self.now (counted_with c.args.self.now c.set_row.new.self) c.release_slot.new.self c.args.slot.now.addr c.args.free_site c.args.row.now h st w (counted_is c.args.self.now c.set_row.new.self c.set_row.ensures.rest) c.release_slot.ensures.rest c.set_row.ensures.changes,
    )) c.requires.sound
