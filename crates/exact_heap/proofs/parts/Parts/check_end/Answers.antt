use Rattle.std.proofs.Common.{◌≡◌, ◌+◌, ◌^◌, ◌<◌, ◌≤◌, sym, ap, subst, ◌∙◌, arith, true, Option, Some}
use Rattle.rv_memory.specs.Spaces.{memory_of, taken_of}
use Rattle.miniheap.specs.declared.place.Slot.{Slot}
use Rattle.miniheap.specs.Slots.{Slots, slot_at, IsSlotOf}
use Rattle.exact_heap.specs.declared.parts.Parts.{Parts}
use Rattle.exact_heap.specs.History.{History}
use Rattle.exact_heap.specs.Calls.{check_end}
use Rattle.exact_heap.specs.Stands.{state_at}
use Rattle.exact_heap.proofs.Homes.{heap_mapped, slot_in_heap}
use Rattle.exact_heap.proofs.Sound.{sound_order, sound_few, sound_then, slot_class}
use Rattle.exact_heap.proofs.Walks.{bytes_left, walk_nears}
use Rattle.exact_heap.proofs.Ends.{EndsGoOn, ends_begin, ends_slots, ends_step, ends_end, already_ended, walk_low, found_again}
use Rattle.exact_heap.proofs.parts.Parts.check_end.Goals as goal

pub returns-then-self-clause-stands : goal.returns-then-self-clause-stands
returns-then-self-clause-stands c h st = already_ended c.args.self.now h c.args.space.now st c.if-self.true

pub loop-next-init : goal.loop-next-init
loop-next-init c = record { addr = 1073741824; here = c.first-next.ensures.from; so_far = ends_begin c.slot_laws.ensures c.args.self.now c.args.space.now }

pub check_at_end-requires-clause-class : goal.check_at_end-requires-clause-class
check_at_end-requires-clause-class c =
    let w = c.loop-next.invariant in
    (slot_class c.slot_laws.ensures c.args.self.now.slots.grid w.addr c.in-Some.slot (sound_order c.args.self.now c.requires.sound) (sym w.here ∙ c.in-Some.is)).1

pub check_at_end-requires-clause-mapped : goal.check_at_end-requires-clause-mapped
check_at_end-requires-clause-mapped c =
    let w = c.loop-next.invariant in
    heap_mapped c.args.self.now.slots.grid (memory_of c.args.space.now) (taken_of c.args.space.now) c.in-Some.slot.addr (2 ^ c.in-Some.slot.class) (sound_order c.args.self.now c.requires.sound) c.requires.home
    (slot_in_heap c.slot_laws.ensures c.args.self.now.slots.grid w.addr c.in-Some.slot (sym w.here ∙ c.in-Some.is))

pub check_at_end-requires-clause-room : goal.check_at_end-requires-clause-room
check_at_end-requires-clause-room c =
    let w = c.loop-next.invariant in
    let few : c.args.self.now.signals.count ≤ 2 ^ 33 = sound_few c.slot_laws.ensures c.args.self.now c.requires.sound in
    let more : c.loop-next.self.signals.count ≤ c.args.self.now.signals.count + w.addr = omega (arith, w.so_far.few) in
    let low : w.addr < 2 ^ 31 = walk_low c.slot_laws.ensures c.args.self.now.slots.grid w.addr c.in-Some.slot w.so_far.left (sound_order c.args.self.now c.requires.sound) w.so_far.walk (sym w.here ∙ c.in-Some.is) in
    omega (arith, few, more, low)

pub next-next-requires : goal.next-next-requires
next-next-requires c =
    let w = c.loop-next.invariant in
    let found : slot_at c.args.self.now.slots.grid c.in-Some.slot.addr ≡ Some c.in-Some.slot = found_again c.slot_laws.ensures c.args.self.now.slots.grid w.addr c.in-Some.slot w.so_far.left w.so_far.walk (sym w.here ∙ c.in-Some.is) in
    record {
      known = subst (λ (s : Slots). IsSlotOf s c.in-Some.slot) (sym (ends_slots c.args.self.now c.loop-next.self c.check_at_end.new.self c.args.space.now w.addr w.so_far c.check_at_end.ensures.rest))
          (c.slot_laws.ensures.known c.args.self.now.slots.grid c.in-Some.slot.addr c.in-Some.slot found).0;
    }

-- the slot behind is one of those at the start
behind_is : (start q : Parts) (t : Slot) (next : Option Slot) → q.slots.grid ≡ start.slots.grid → next ≡ slot_at q.slots.grid (t.addr + 2 ^ t.class) → next ≡ slot_at start.slots.grid (t.addr + 2 ^ t.class)
behind_is start q t next e f = f ∙ ap (λ (s : Slots). slot_at s (t.addr + 2 ^ t.class)) e

pub loop-next-smaller : goal.loop-next-smaller
loop-next-smaller c =
    let w = c.loop-next.invariant in
    subst (λ (o : Option Slot). bytes_left c.args.self.now.slots.grid c.next-next.result < bytes_left c.args.self.now.slots.grid o) (sym c.in-Some.is)
    (walk_nears c.slot_laws.ensures c.args.self.now.slots.grid w.addr c.in-Some.slot w.so_far.left c.next-next.result w.so_far.walk (sym w.here ∙ c.in-Some.is)
    (behind_is c.args.self.now c.check_at_end.new.self c.in-Some.slot c.next-next.result (ends_slots c.args.self.now c.loop-next.self c.check_at_end.new.self c.args.space.now w.addr w.so_far c.check_at_end.ensures.rest) c.next-next.ensures.behind))

pub loop-next-preserved : goal.loop-next-preserved
loop-next-preserved c =
    let w = c.loop-next.invariant in
    ends_step c.slot_laws.ensures c.args.self.now c.loop-next.self c.check_at_end.new.self c.args.space.now c.in-Some.slot c.next-next.result
    (subst (EndsGoOn c.args.self.now c.loop-next.self c.args.space.now) c.in-Some.is w)
    (behind_is c.args.self.now c.check_at_end.new.self c.in-Some.slot c.next-next.result (ends_slots c.args.self.now c.loop-next.self c.check_at_end.new.self c.args.space.now w.addr w.so_far c.check_at_end.ensures.rest) c.next-next.ensures.behind)
    c.check_at_end.ensures.rest c.check_at_end.ensures.few c.check_at_end.ensures.adds

pub returns-clause-stands : goal.returns-clause-stands
returns-clause-stands c h st =
    let w = c.loop-next.invariant in
    ends_end c.args.self.now c.loop-next.self h c.args.space.now w.addr w.so_far (sym w.here ∙ c.in_default.is) (sound_order c.args.self.now c.requires.sound) st c.if-self.false

pub returns-clause-sound : goal.returns-clause-sound
returns-clause-sound c =
    let w = c.loop-next.invariant in
    sound_then c.args.self.now (record c.loop-next.self { ended = true }) (λ (h : History). check_end (state_at h c.args.space.now))
    (λ h st. ends_end c.args.self.now c.loop-next.self h c.args.space.now w.addr w.so_far (sym w.here ∙ c.in_default.is) (sound_order c.args.self.now c.requires.sound) st c.if-self.false) c.requires.sound
