use Rattle.std.proofs.Common.{◌≡◌, sym, subst, ◌∙◌, true}
use Rattle.std.specs.Ordering.{nat_cmp}
use Rattle.std.specs.FinSet.{FinSet, contains}
use Rattle.rv_memory.specs.Memory.{Memory}
use Rattle.rv_memory.specs.Spaces.{memory_of, taken_of}
use Rattle.exact_heap.specs.History.{History}
use Rattle.exact_heap.specs.Placing.{HeapState}
use Rattle.exact_heap.specs.Freeing.{neighbour_checked, neighbours_checked}
use Rattle.exact_heap.specs.Stands.{PartsStandFor, state_at}
use Rattle.exact_heap.proofs.Homes.{home_fewer}
use Rattle.exact_heap.proofs.Sound.{sound_then}
use Rattle.exact_heap.proofs.Neighbours.{before_is, after_is, before_known, after_known, slot_of_same, neighbour_memory, both_checked}
use Rattle.exact_heap.proofs.parts.Parts.check_neighbours.Goals as goal

pub before-before-requires : goal.before-before-requires
before-before-requires c = record { known = (c.slot_laws.ensures.known c.args.self.now.slots.grid c.args.slot.now.addr c.args.slot.now c.requires.found).0 }

pub after-after-requires : goal.after-after-requires
after-after-requires c = record {
  known = slot_of_same c.args.self.now.slots.grid c.check_neighbour.new.self.slots.grid c.args.slot.now c.check_neighbour.ensures.places (c.slot_laws.ensures.known c.args.self.now.slots.grid c.args.slot.now.addr c.args.slot.now c.requires.found).0;
}

pub check_neighbour-requires-clause-known : goal.check_neighbour-requires-clause-known
check_neighbour-requires-clause-known c = before_known c.slot_laws.ensures c.args.self.now.slots.grid c.args.slot.now c.before-before.result (c.slot_laws.ensures.known c.args.self.now.slots.grid c.args.slot.now.addr c.args.slot.now c.requires.found).0 c.before-before.ensures.before

pub check_neighbour-requires-2-clause-sound : goal.check_neighbour-requires-2-clause-sound
check_neighbour-requires-2-clause-sound c =
    sound_then c.args.self.now c.check_neighbour.new.self (λ (h : History). (neighbour_checked (state_at h c.args.space.now) c.before-before.result).history) c.check_neighbour.ensures.stands c.requires.sound

pub check_neighbour-requires-2-clause-home : goal.check_neighbour-requires-2-clause-home
check_neighbour-requires-2-clause-home c =
    home_fewer c.args.self.now.slots.grid c.check_neighbour.new.self.slots.grid (memory_of c.args.space.now) (taken_of c.args.space.now) (sym c.check_neighbour.ensures.places)
    (λ a e. subst (λ (x : FinSet nat_cmp). contains x a ≡ true) c.check_neighbour.ensures.held e) c.requires.home

pub check_neighbour-requires-2-clause-known : goal.check_neighbour-requires-2-clause-known
check_neighbour-requires-2-clause-known c =
    after_known c.slot_laws.ensures c.check_neighbour.new.self.slots.grid c.args.slot.now c.after-after.result (slot_of_same c.args.self.now.slots.grid c.check_neighbour.new.self.slots.grid c.args.slot.now c.check_neighbour.ensures.places (c.slot_laws.ensures.known c.args.self.now.slots.grid c.args.slot.now.addr c.args.slot.now c.requires.found).0) c.after-after.ensures.none c.after-after.ensures.after

pub returns-clause-stands : goal.returns-clause-stands
returns-clause-stands c h st =
    let s : HeapState = state_at h c.args.space.now in
    let s1 : HeapState = neighbour_checked s c.before-before.result in
    let st1 : PartsStandFor c.check_neighbour.new.self s1.history = c.check_neighbour.ensures.stands h st in
    let m : (λ (x : Memory). x) s1.memory ≡ memory_of c.args.space.now = neighbour_memory s c.before-before.result in
    let st2 : PartsStandFor c.check_neighbour-2.new.self (neighbour_checked (state_at s1.history c.args.space.now) c.after-after.result).history = c.check_neighbour-2.ensures.stands s1.history st1 in
    let e : neighbours_checked c.args.slot.now.addr s ≡ neighbour_checked s1 c.after-after.result =
    both_checked c.args.slot.now.addr s c.args.self.now.slots.grid c.check_neighbour.new.self.slots.grid c.args.slot.now c.before-before.result c.after-after.result st.slots.grid c.requires.found
    (before_is c.args.self.now.slots.grid c.args.slot.now c.before-before.result c.before-before.ensures.none c.before-before.ensures.before) st1.slots.grid c.check_neighbour.ensures.places
    (after_is c.check_neighbour.new.self.slots.grid c.args.slot.now c.after-after.result c.after-after.ensures.none c.after-after.ensures.after) in
    subst (λ (r : HeapState). PartsStandFor c.check_neighbour-2.new.self r.history) (sym e)
    (subst (λ (x : Memory). PartsStandFor c.check_neighbour-2.new.self (neighbour_checked (record { history = s1.history; memory = x }) c.after-after.result).history) (sym m) st2)

pub returns-clause-sound : goal.returns-clause-sound
returns-clause-sound c =
    sound_then c.check_neighbour.new.self c.check_neighbour-2.new.self (λ (h : History). (neighbour_checked (state_at h c.args.space.now) c.after-after.result).history) c.check_neighbour-2.ensures.stands
    (sound_then c.args.self.now c.check_neighbour.new.self (λ (h : History). (neighbour_checked (state_at h c.args.space.now) c.before-before.result).history) c.check_neighbour.ensures.stands c.requires.sound)

pub returns-clause-home : goal.returns-clause-home
returns-clause-home c =
    home_fewer c.args.self.now.slots.grid c.check_neighbour-2.new.self.slots.grid (memory_of c.args.space.now) (taken_of c.args.space.now) (sym (c.check_neighbour-2.ensures.places ∙ c.check_neighbour.ensures.places))
    (λ a e. subst (λ (x : FinSet nat_cmp). contains x a ≡ true) (c.check_neighbour-2.ensures.held ∙ c.check_neighbour.ensures.held) e) c.requires.home
