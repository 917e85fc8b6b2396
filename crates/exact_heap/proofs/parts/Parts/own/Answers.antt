use Rattle.miniheap.specs.declared.place.Slot.{Slot}
use Rattle.std.proofs.lemmas.Option.{same_Some}
use Rattle.exact_heap.specs.Lawful.{HasRoom}
use Rattle.std.proofs.Common.{◌≡◌, ℕ, ◌+◌, ◌-◌, ◌^◌, sym, ap, subst, ◌∙◌, refl, Bool, true, cond, max, List, Some}
use Rattle.deferral_queue.specs.Deferrals.{Deferrals}
use Rattle.rv_memory.specs.Memory.{Memory, is_mapped, is_taken, filled, KeepsTaken}
use Rattle.rv_memory.specs.Spaces.{memory_of, taken_of}
use Rattle.miniheap.specs.Slots.{Slots, slot_at, held_at, IsFreeSlot}
use Rattle.exact_heap.specs.declared.parts.Parts.{Parts}
use Rattle.exact_heap.specs.declared.parts.Request.{Request}
use Rattle.exact_heap.specs.History.{History}
use Rattle.exact_heap.specs.Home.{IsHome}
use Rattle.exact_heap.specs.Placing.{HeapState, new_object, placed}
use Rattle.exact_heap.specs.RowStore.{RowChunk, RowsChange}
use Rattle.exact_heap.specs.Stands.{PartsStandFor, IsSound, row_of, state_at}
use Rattle.miniheap.specs.Laws.{SlotLaws}
use Rattle.exact_heap.proofs.Sound.{sound_order, sound_then, sound_frees, sound_chunks}
use Rattle.exact_heap.proofs.RowStores.{rows_changed, chunk_known}
use Rattle.exact_heap.proofs.Standing.{owned_stands, with_object, reserved_stands}
use Rattle.exact_heap.proofs.Homes.{heap_mapped, home_keeps, home_held, home_filled}
use Rattle.exact_heap.proofs.Turns.{FreeSlot, free_slot_is, free_slot_lies}
use Rattle.exact_heap.proofs.parts.Parts.own.Goals as goal

pub owned-owned-requires : goal.owned-owned-requires
owned-owned-requires c = sound_frees c.args.self.now c.requires.sound

slot_mapped : SlotLaws → (p : Parts) (class slot n : ℕ) (m : Memory) (taken : ℕ → Bool) → IsSound p → IsHome p.slots.grid m taken → IsFreeSlot p.slots.grid class slot → n ≡ 2 ^ class → is_mapped m slot n ≡ true
slot_mapped laws p class slot n m taken sound home free e =
    subst (λ (k : ℕ). is_mapped m slot k ≡ true) (sym e) (heap_mapped p.slots.grid m taken slot (2 ^ class) (sound_order p sound) home (free_slot_lies laws p.slots.grid class slot free))

pub take_pages-requires : goal.take_pages-requires
take_pages-requires c =
    slot_mapped c.slot_laws.ensures c.args.self.now c.args.request.now.class c.args.slot c.slot_bytes-bytes.result (memory_of c.args.space.now) (taken_of c.args.space.now) c.requires.sound c.requires.home c.requires.free c.slot_bytes-bytes.ensures

-- the queue has room for the frees of all owned objects, and of one more
reserved : (p : Parts) (queue : Deferrals) (owned : ℕ) → queue ≡ record p.queue { spare = max p.queue.spare (owned + 1) } → owned ≡ p.counts.clock - p.counts.frees → queue ≡ record p.queue { spare = max p.queue.spare (p.counts.clock - p.counts.frees + 1) }
reserved p queue owned e f = e ∙ ap (λ (n : ℕ). record p.queue { spare = max p.queue.spare (n + 1) }) f

pub returns-in_err-reserve-clause-sound : goal.returns-in_err-reserve-clause-sound
returns-in_err-reserve-clause-sound c = subst (λ (q : Deferrals). IsSound (record c.args.self.now { queue = q })) (sym c.in_err-reserve.ensures.err) c.requires.sound

pub returns-in_err-set-clause-sound : goal.returns-in_err-set-clause-sound
returns-in_err-set-clause-sound c =
    let p : Parts = c.args.self.now in
    subst (λ (rows : List (List RowChunk)). IsSound (record p { slots = record p.slots { rows = rows }; queue = c.reserve.new.self })) (sym c.in_err-set.ensures.err)
    (sound_then p (record p { queue = c.reserve.new.self }) (λ (h : History). h) (λ h st. reserved_stands p h c.reserve.new.self (p.counts.clock - p.counts.frees + 1) st (reserved c.args.self.now c.reserve.new.self c.owned-owned.result c.in_ok-reserve.ensures.ok c.owned-owned.ensures)) c.requires.sound)

pub set-requires-clause-chunk : goal.set-requires-clause-chunk
set-requires-clause-chunk c = chunk_known c.args.self.now.slots.grid c.args.self.now.slots.rows c.args.slot c.in-Some.place (sym c.slot_at.ensures.slot ∙ c.in-Some.is) (sound_chunks c.args.self.now c.requires.sound)

pub zero-requires-clause-mapped : goal.zero-requires-clause-mapped
zero-requires-clause-mapped c =
    subst (λ (m : Memory). is_mapped m c.args.slot c.slot_bytes-bytes.result ≡ true) (sym c.take_pages.ensures.memory)
    (slot_mapped c.slot_laws.ensures c.args.self.now c.args.request.now.class c.args.slot c.slot_bytes-bytes.result (memory_of c.args.space.now) (taken_of c.args.space.now) c.requires.sound c.requires.home c.requires.free c.slot_bytes-bytes.ensures)

-- the slot that was looked up begins at its address
own_slot_is : (s : Slots) (class slot : ℕ) (t : Slot) → IsFreeSlot s class slot → slot_at s slot ≡ Some t → t.addr ≡ slot
own_slot_is s class slot t free e =
    let k : FreeSlot s class slot = free_slot_is s class slot free in
    ap (λ (x : Slot). x.addr) (same_Some t k.slot (sym e ∙ k.found)) ∙ k.addr

-- what is kept stands for the history with the object
owns : (p : Parts) (h : History) (r : Request) (slot : ℕ) (grid : Slots) (queue : Deferrals) (rows : List (List RowChunk)) → PartsStandFor p h → IsFreeSlot p.slots.grid r.class slot → HasRoom r.class r.front r.alignment r.size
    → grid ≡ held_at p.slots.grid slot → queue ≡ record p.queue { spare = max p.queue.spare (p.counts.clock - p.counts.frees + 1) } → RowsChange p.slots.grid.classes p.slots.rows rows slot (row_of (record { number = p.counts.clock; object = new_object r slot }))
    → PartsStandFor (record p { slots = record { grid = grid; rows = rows }; queue = queue; counts = record p.counts { clock = p.counts.clock + 1 } }) (with_object h (new_object r slot))
owns p h r slot grid queue rows st free room g q change =
    subst (λ (x : Slots). PartsStandFor (record p { slots = record { grid = x; rows = rows }; queue = queue; counts = record p.counts { clock = p.counts.clock + 1 } }) (with_object h (new_object r slot))) (sym g)
    (subst (λ (x : Deferrals). PartsStandFor (record p { slots = record { grid = held_at p.slots.grid slot; rows = rows }; queue = x; counts = record p.counts { clock = p.counts.clock + 1 } }) (with_object h (new_object r slot))) (sym q)
    (owned_stands p h r slot (p.counts.clock - p.counts.frees + 1) rows st free room refl (subst (λ (s : Slots). RowsChange s.classes p.slots.rows rows slot (row_of (record { number = p.counts.clock; object = new_object r slot }))) st.slots.grid change)))

placed_memory : (r : Request) (zeroed : Bool) (slot : ℕ) (s : HeapState) (m : Memory) → m ≡ cond zeroed (filled s.memory slot (2 ^ r.class) (λ a. 0)) s.memory → m ≡ (placed r zeroed slot s).memory
placed_memory r zeroed slot s m e = e

held_home : SlotLaws → (p : Parts) (class slot n : ℕ) (m : Memory) (old taken : ℕ → Bool) (grid : Slots) → IsHome p.slots.grid m old → KeepsTaken old taken → is_taken taken slot n ≡ true → n ≡ 2 ^ class → IsFreeSlot p.slots.grid class slot → grid ≡ held_at p.slots.grid slot → IsHome grid m taken
held_home laws p class slot n m old taken grid home keeps pages e free g =
    let k : FreeSlot p.slots.grid class slot = free_slot_is p.slots.grid class slot free in
    subst (λ (x : Slots). IsHome x m taken) (sym g)
    (subst (λ (a : ℕ). IsHome (held_at p.slots.grid a) m taken) k.addr
    (home_held laws p.slots.grid m taken k.slot (ap (slot_at p.slots.grid) k.addr ∙ k.found)
    (subst (λ (a : ℕ). is_taken taken a (2 ^ k.slot.class) ≡ true) (sym k.addr) (subst (λ (d : ℕ). is_taken taken slot (2 ^ d) ≡ true) (sym k.class) (subst (λ (z : ℕ). is_taken taken slot z ≡ true) e pages)))
    (home_keeps p.slots.grid m old taken keeps home)))

pub returns-then-zeroed-clause-placed : goal.returns-then-zeroed-clause-placed
returns-then-zeroed-clause-placed c h st = record {
  stands = owns c.args.self.now h c.args.request.now c.args.slot c.hold.new.self c.reserve.new.self c.set.new.self st c.requires.free c.requires.fits.room c.hold.ensures (reserved c.args.self.now c.reserve.new.self c.owned-owned.result c.in_ok-reserve.ensures.ok c.owned-owned.ensures)
      (rows_changed c.slot_laws.ensures c.args.self.now.slots.grid c.args.self.now.slots.rows c.set.new.self c.args.slot c.in-Some.place (row_of (record { number = c.args.self.now.counts.clock; object = new_object c.args.request.now c.args.slot })) (sym c.slot_at.ensures.slot ∙ c.in-Some.is) (own_slot_is c.args.self.now.slots.grid c.args.request.now.class c.args.slot c.in-Some.place c.requires.free (sym c.slot_at.ensures.slot ∙ c.in-Some.is)) (sound_chunks c.args.self.now c.requires.sound) c.in_ok-set.ensures.ok c.in_ok-set.ensures.rest);
  bytes = placed_memory c.args.request.now c.args.zeroed c.args.slot (state_at h c.args.space.now) (memory_of c.zero.new.self)
      (c.zero.ensures.cleared ∙ ap (λ (m : Memory). filled m c.args.slot c.slot_bytes-bytes.result (λ a. 0)) c.take_pages.ensures.memory ∙ ap (λ (n : ℕ). filled (memory_of c.args.space.now) c.args.slot n (λ a. 0)) c.slot_bytes-bytes.ensures
      ∙ ap (λ (b : Bool). cond b (filled (memory_of c.args.space.now) c.args.slot (2 ^ c.args.request.now.class) (λ a. 0)) (memory_of c.args.space.now)) (sym c.if-zeroed.true));
}

pub returns-else-zeroed-clause-placed : goal.returns-else-zeroed-clause-placed
returns-else-zeroed-clause-placed c h st = record {
  stands = owns c.args.self.now h c.args.request.now c.args.slot c.hold.new.self c.reserve.new.self c.set.new.self st c.requires.free c.requires.fits.room c.hold.ensures (reserved c.args.self.now c.reserve.new.self c.owned-owned.result c.in_ok-reserve.ensures.ok c.owned-owned.ensures)
      (rows_changed c.slot_laws.ensures c.args.self.now.slots.grid c.args.self.now.slots.rows c.set.new.self c.args.slot c.in-Some.place (row_of (record { number = c.args.self.now.counts.clock; object = new_object c.args.request.now c.args.slot })) (sym c.slot_at.ensures.slot ∙ c.in-Some.is) (own_slot_is c.args.self.now.slots.grid c.args.request.now.class c.args.slot c.in-Some.place c.requires.free (sym c.slot_at.ensures.slot ∙ c.in-Some.is)) (sound_chunks c.args.self.now c.requires.sound) c.in_ok-set.ensures.ok c.in_ok-set.ensures.rest);
  bytes = placed_memory c.args.request.now c.args.zeroed c.args.slot (state_at h c.args.space.now) (memory_of c.take_pages.new.self)
      (c.take_pages.ensures.memory ∙ ap (λ (b : Bool). cond b (filled (memory_of c.args.space.now) c.args.slot (2 ^ c.args.request.now.class) (λ a. 0)) (memory_of c.args.space.now)) (sym c.if-zeroed.false));
}

pub returns-then-zeroed-clause-sound : goal.returns-then-zeroed-clause-sound
returns-then-zeroed-clause-sound c =
    sound_then c.args.self.now (record c.args.self.now { slots = record { grid = c.hold.new.self; rows = c.set.new.self }; queue = c.reserve.new.self; counts = record c.args.self.now.counts { clock = c.args.self.now.counts.clock + 1 } }) (λ (h : History). with_object h (new_object c.args.request.now c.args.slot))
    (λ h st. owns c.args.self.now h c.args.request.now c.args.slot c.hold.new.self c.reserve.new.self c.set.new.self st c.requires.free c.requires.fits.room c.hold.ensures (reserved c.args.self.now c.reserve.new.self c.owned-owned.result c.in_ok-reserve.ensures.ok c.owned-owned.ensures)
    (rows_changed c.slot_laws.ensures c.args.self.now.slots.grid c.args.self.now.slots.rows c.set.new.self c.args.slot c.in-Some.place (row_of (record { number = c.args.self.now.counts.clock; object = new_object c.args.request.now c.args.slot })) (sym c.slot_at.ensures.slot ∙ c.in-Some.is) (own_slot_is c.args.self.now.slots.grid c.args.request.now.class c.args.slot c.in-Some.place c.requires.free (sym c.slot_at.ensures.slot ∙ c.in-Some.is)) (sound_chunks c.args.self.now c.requires.sound) c.in_ok-set.ensures.ok c.in_ok-set.ensures.rest))
    c.requires.sound

pub returns-else-zeroed-clause-sound : goal.returns-else-zeroed-clause-sound
returns-else-zeroed-clause-sound c =
    sound_then c.args.self.now (record c.args.self.now { slots = record { grid = c.hold.new.self; rows = c.set.new.self }; queue = c.reserve.new.self; counts = record c.args.self.now.counts { clock = c.args.self.now.counts.clock + 1 } }) (λ (h : History). with_object h (new_object c.args.request.now c.args.slot))
    (λ h st. owns c.args.self.now h c.args.request.now c.args.slot c.hold.new.self c.reserve.new.self c.set.new.self st c.requires.free c.requires.fits.room c.hold.ensures (reserved c.args.self.now c.reserve.new.self c.owned-owned.result c.in_ok-reserve.ensures.ok c.owned-owned.ensures)
    (rows_changed c.slot_laws.ensures c.args.self.now.slots.grid c.args.self.now.slots.rows c.set.new.self c.args.slot c.in-Some.place (row_of (record { number = c.args.self.now.counts.clock; object = new_object c.args.request.now c.args.slot })) (sym c.slot_at.ensures.slot ∙ c.in-Some.is) (own_slot_is c.args.self.now.slots.grid c.args.request.now.class c.args.slot c.in-Some.place c.requires.free (sym c.slot_at.ensures.slot ∙ c.in-Some.is)) (sound_chunks c.args.self.now c.requires.sound) c.in_ok-set.ensures.ok c.in_ok-set.ensures.rest))
    c.requires.sound

pub returns-then-zeroed-clause-home : goal.returns-then-zeroed-clause-home
returns-then-zeroed-clause-home c =
    let home : IsHome c.hold.new.self (memory_of c.args.space.now) (taken_of c.take_pages.new.self) =
    held_home c.slot_laws.ensures c.args.self.now c.args.request.now.class c.args.slot c.slot_bytes-bytes.result (memory_of c.args.space.now) (taken_of c.args.space.now) (taken_of c.take_pages.new.self) c.hold.new.self c.requires.home c.take_pages.ensures.taken c.in_ok-take_pages.ensures.sure
    c.slot_bytes-bytes.ensures c.requires.free c.hold.ensures in
    let mapped : is_mapped (memory_of c.args.space.now) c.args.slot c.slot_bytes-bytes.result ≡ true =
    slot_mapped c.slot_laws.ensures c.args.self.now c.args.request.now.class c.args.slot c.slot_bytes-bytes.result (memory_of c.args.space.now) (taken_of c.args.space.now) c.requires.sound c.requires.home c.requires.free c.slot_bytes-bytes.ensures in
    subst (λ (m : Memory). IsHome c.hold.new.self m (taken_of c.zero.new.self)) (sym (c.zero.ensures.cleared ∙ ap (λ (m : Memory). filled m c.args.slot c.slot_bytes-bytes.result (λ a. 0)) c.take_pages.ensures.memory))
    (home_keeps c.hold.new.self (filled (memory_of c.args.space.now) c.args.slot c.slot_bytes-bytes.result (λ a. 0)) (taken_of c.take_pages.new.self) (taken_of c.zero.new.self) c.zero.ensures.taken
    (home_filled c.hold.new.self (memory_of c.args.space.now) (taken_of c.take_pages.new.self) c.args.slot c.slot_bytes-bytes.result (λ a. 0) mapped home))

pub returns-else-zeroed-clause-home : goal.returns-else-zeroed-clause-home
returns-else-zeroed-clause-home c =
    subst (λ (m : Memory). IsHome c.hold.new.self m (taken_of c.take_pages.new.self)) (sym c.take_pages.ensures.memory)
    (held_home c.slot_laws.ensures c.args.self.now c.args.request.now.class c.args.slot c.slot_bytes-bytes.result (memory_of c.args.space.now) (taken_of c.args.space.now) (taken_of c.take_pages.new.self) c.hold.new.self c.requires.home c.take_pages.ensures.taken c.in_ok-take_pages.ensures.sure
    c.slot_bytes-bytes.ensures c.requires.free c.hold.ensures)
