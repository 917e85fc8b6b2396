use Rattle.std.proofs.Common.{◌≡◌, ℕ, ◌+◌, ◌^◌, ◌<◌, sym, ap, subst, ◌∙◌, refl, true, Ok, Some, None}
use Rattle.rv_memory.specs.Memory.{is_mapped, first_broken}
use Rattle.rv_memory.specs.Spaces.{memory_of, taken_of}
use Rattle.miniheap.specs.Slots.{Slots, must_grow}
use Rattle.miniheap.specs.WordList.{WordList, HasSpent}
use Rattle.miniheap.specs.Draws.{IsDrawn}
use Rattle.exact_heap.specs.declared.parts.Parts.{Parts}
use Rattle.exact_heap.specs.History.{History, slots_of}
use Rattle.exact_heap.specs.Home.{IsHome}
use Rattle.exact_heap.specs.Placing.{HeapState, Turn, turn, checked, with_draws, break_in, signalled, room_left}
use Rattle.exact_heap.specs.Stands.{PartsStandFor, IsSound, IsAt, Gives, state_at}
use Rattle.exact_heap.proofs.Sound.{sound_order, sound_map}
use Rattle.exact_heap.proofs.Standing.{drawn_stands}
use Rattle.exact_heap.proofs.States.{room_spoiled}
use Rattle.exact_heap.proofs.Homes.{heap_mapped, home_spoiled}
use Rattle.exact_heap.proofs.Turns.{turn_grows, turn_draws, free_slot_in, free_slot_lies}
use Rattle.exact_heap.proofs.parts.Parts.attempt.Goals as goal

pub returns-then-must_grow-clause-gives : goal.returns-then-must_grow-clause-gives
returns-then-must_grow-clause-gives c h st =
    let s : HeapState = state_at h c.args.space.now in
    let e : must_grow (slots_of h) c.args.class ≡ true = ap (λ (x : Slots). must_grow x c.args.class) (sym st.slots.grid) ∙ sym c.must_grow.ensures ∙ c.if-must_grow.true in
    subst (λ (t : Turn). Gives t.state t.answer c.grow.result c.grow.new.self (memory_of c.grow.new.space)) (sym (turn_grows c.args.class s e)) (c.grow.ensures.gives h st)

pub first_break_at-requires : goal.first_break_at-requires
first_break_at-requires c =
    subst (λ (n : ℕ). is_mapped (memory_of c.args.space.now) c.draw-slot.result n ≡ true) (sym c.slot_bytes.ensures)
    (heap_mapped c.args.self.now.slots.grid (memory_of c.args.space.now) (taken_of c.args.space.now) c.draw-slot.result (2 ^ c.args.class) (sound_order c.args.self.now c.requires.sound) c.requires.home
    (free_slot_lies c.slot_laws.ensures c.args.self.now.slots.grid c.args.class c.draw-slot.result c.draw-slot.ensures.free))

-- words were spent on a draw
sound_drawn : (p : Parts) (class slot : ℕ) (words : WordList) → ((seed spent : ℕ) → HasSpent p.words seed spent → IsDrawn seed spent p.slots.grid class slot words) → IsSound p → IsSound (record p { words = words })
sound_drawn p class slot words drawn =
    sound_map p (record p { words = words }) (λ h st. let d = drawn h.seed h.spent st.words in (record h { spent = h.spent + d.pick.draws }, drawn_stands p h words d.pick.draws st d.spends))

pub spoil-requires-clause-sound : goal.spoil-requires-clause-sound
spoil-requires-clause-sound c = sound_drawn c.args.self.now c.args.class c.draw-slot.result c.draw-slot.new.words c.draw-slot.ensures.drawn c.requires.sound

pub spoil-requires-clause-free : goal.spoil-requires-clause-free
spoil-requires-clause-free c = free_slot_in c.args.self.now.slots.grid c.args.class c.draw-slot.result c.draw-slot.ensures.free

pub returns-in-None-clause-gives : goal.returns-in-None-clause-gives
returns-in-None-clause-gives c h st =
    let p : Parts = c.args.self.now in
    let s : HeapState = state_at h c.args.space.now in
    let d : IsDrawn h.seed h.spent p.slots.grid c.args.class c.draw-slot.result c.draw-slot.new.words = c.draw-slot.ensures.drawn h.seed h.spent st.words in
    let b : break_in s c.draw-slot.result c.args.class ≡ None =
    ap (λ (w : ℕ). first_broken (memory_of c.args.space.now) w c.draw-slot.result (2 ^ c.args.class)) (sym (c.canary.ensures h.seed (h.spent + d.pick.draws) d.spends))
    ∙ ap (first_broken (memory_of c.args.space.now) c.canary.result c.draw-slot.result) (sym c.slot_bytes.ensures) ∙ sym c.first_break_at.ensures.first ∙ c.in-None.is in
    let e : turn c.args.class s ≡ checked c.draw-slot.result (with_draws d.pick.draws s) None =
    turn_draws c.args.class s p.slots.grid d.pick c.draw-slot.result None st.slots.grid (sym c.must_grow.ensures ∙ c.if-must_grow.false) d.is_picked d.address_is b in
    subst (λ (t : Turn). (t.answer ≡ Ok (Some c.draw-slot.result)) × IsAt t.state (record p { words = c.draw-slot.new.words }) (memory_of c.args.space.now)) (sym e)
    (refl, record { stands = drawn_stands p h c.draw-slot.new.words d.pick.draws st d.spends; bytes = refl })

pub returns-in-None-clause-sound : goal.returns-in-None-clause-sound
returns-in-None-clause-sound c = sound_drawn c.args.self.now c.args.class c.draw-slot.result c.draw-slot.new.words c.draw-slot.ensures.drawn c.requires.sound

pub returns-in-Some-clause-gives : goal.returns-in-Some-clause-gives
returns-in-Some-clause-gives c h st =
    let p : Parts = c.args.self.now in
    let s : HeapState = state_at h c.args.space.now in
    let d : IsDrawn h.seed h.spent p.slots.grid c.args.class c.draw-slot.result c.draw-slot.new.words = c.draw-slot.ensures.drawn h.seed h.spent st.words in
    let b : break_in s c.draw-slot.result c.args.class ≡ Some c.in-Some.broken =
    ap (λ (w : ℕ). first_broken (memory_of c.args.space.now) w c.draw-slot.result (2 ^ c.args.class)) (sym (c.canary.ensures h.seed (h.spent + d.pick.draws) d.spends))
    ∙ ap (first_broken (memory_of c.args.space.now) c.canary.result c.draw-slot.result) (sym c.slot_bytes.ensures) ∙ sym c.first_break_at.ensures.first ∙ c.in-Some.is in
    let e : turn c.args.class s ≡ checked c.draw-slot.result (with_draws d.pick.draws s) (Some c.in-Some.broken) =
    turn_draws c.args.class s p.slots.grid d.pick c.draw-slot.result (Some c.in-Some.broken) st.slots.grid (sym c.must_grow.ensures ∙ c.if-must_grow.false) d.is_picked d.address_is b in
    subst (λ (t : Turn). (t.answer ≡ Ok None) × IsAt t.state c.spoil.new.self (memory_of c.args.space.now)) (sym e)
    (refl, record { stands = c.spoil.ensures.stands (record h { spent = h.spent + d.pick.draws }) (drawn_stands p h c.draw-slot.new.words d.pick.draws st d.spends); bytes = refl })

pub returns-in-Some-clause-nearer : goal.returns-in-Some-clause-nearer
returns-in-Some-clause-nearer c =
    subst (λ (g : Slots). room_left c.args.class g < room_left c.args.class c.args.self.now.slots.grid) (sym c.spoil.ensures.slots)
    (room_spoiled c.slot_laws.ensures c.args.self.now.slots.grid c.args.class c.draw-slot.result c.draw-slot.ensures.free (free_slot_in c.args.self.now.slots.grid c.args.class c.draw-slot.result c.draw-slot.ensures.free))

pub returns-in-Some-clause-sound : goal.returns-in-Some-clause-sound
returns-in-Some-clause-sound c =
    let p : Parts = c.args.self.now in
    sound_map p c.spoil.new.self
    (λ (h : History) (st : PartsStandFor p h). let d : IsDrawn h.seed h.spent p.slots.grid c.args.class c.draw-slot.result c.draw-slot.new.words = c.draw-slot.ensures.drawn h.seed h.spent st.words in
    ((signalled c.draw-slot.result c.in-Some.broken (state_at (record h { spent = h.spent + d.pick.draws }) c.args.space.now)).history, c.spoil.ensures.stands (record h { spent = h.spent + d.pick.draws }) (drawn_stands p h c.draw-slot.new.words d.pick.draws st d.spends)))
    c.requires.sound

pub returns-in-Some-clause-home : goal.returns-in-Some-clause-home
returns-in-Some-clause-home c =
    subst (λ (g : Slots). IsHome g (memory_of c.args.space.now) (taken_of c.args.space.now)) (sym c.spoil.ensures.slots)
    (home_spoiled c.args.self.now.slots.grid (memory_of c.args.space.now) (taken_of c.args.space.now) c.draw-slot.result c.requires.home)
