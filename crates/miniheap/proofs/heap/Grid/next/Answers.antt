use Rattle.std.proofs.Common.{◌≡◌, ◌+◌, ◌^◌, Some, None, rules, sym, ap, ◌∙◌, subst}
use Rattle.miniheap.specs.declared.place.Slot.{Slot}
use Rattle.miniheap.specs.declared.place.SlotPlace.{SlotPlace}
use Rattle.miniheap.specs.Places.{IsPlaceOf, place_at}
use Rattle.miniheap.specs.Slots.{Slots}
use Rattle.miniheap.specs.Walk.{address_number}
use Rattle.miniheap.proofs.StateLemmas.{found_slot, no_slot, slot_number_is, no_slot_number}
use Rattle.miniheap.proofs.heap.Grid.next.Goals as goal

pub returns-in_err-place-clause-next : goal.returns-in_err-place-clause-next
returns-in_err-place-clause-next c =
    let e : c.from_residual.result ≡ None = search rules in
    let q : c.next.result ≡ None = search rules in
    λ k h. e
    ∙ sym (no_slot_number c.self.inside.places c.self.inside.states.items c.args.self.now c.self.view_is (k + 1)
    (sym (c.next.ensures.next k (ap (λ (s : Slots). address_number s.classes k) c.self.view_is ∙ h ∙ ap (λ (p : SlotPlace). p.addr) (sym c.place_of.ensures))) ∙ q))

pub returns-in_err-place-clause-behind : goal.returns-in_err-place-clause-behind
returns-in_err-place-clause-behind c =
    let e : c.from_residual.result ≡ None = search rules in
    let q : c.next.result ≡ None = search rules in
    e
    ∙ sym (no_slot c.self.inside.places c.self.inside.states.items c.args.self.now c.self.view_is (c.args.slot.now.addr + 2 ^ c.args.slot.now.class)
    (ap (λ (p : SlotPlace). place_at c.self.inside.places (p.addr + 2 ^ p.class)) (sym c.place_of.ensures) ∙ sym c.next.ensures.behind ∙ q))

pub returns-clause-next : goal.returns-clause-next
returns-clause-next c =
    let q : c.next.result ≡ Some c.in_ok-place.place = search rules in
    λ k h. ap (λ (t : Slot). Some t) c.slot.ensures
    ∙ sym (slot_number_is c.self.inside.places c.self.inside.states.items c.args.self.now c.self.view_is (k + 1) c.in_ok-place.place
    (sym (c.next.ensures.next k (ap (λ (s : Slots). address_number s.classes k) c.self.view_is ∙ h ∙ ap (λ (p : SlotPlace). p.addr) (sym c.place_of.ensures))) ∙ q)
    (subst (λ (s : Slots). IsPlaceOf s.classes c.in_ok-place.place) c.self.view_is c.in_ok-place.ensures.known))

pub returns-clause-behind : goal.returns-clause-behind
returns-clause-behind c =
    let q : c.next.result ≡ Some c.in_ok-place.place = search rules in
    ap (λ (t : Slot). Some t) c.slot.ensures
    ∙ sym (found_slot c.self.inside.places c.self.inside.states.items c.args.self.now c.self.view_is (c.args.slot.now.addr + 2 ^ c.args.slot.now.class) c.in_ok-place.place
    (ap (λ (p : SlotPlace). place_at c.self.inside.places (p.addr + 2 ^ p.class)) (sym c.place_of.ensures) ∙ sym c.next.ensures.behind ∙ q)
    (subst (λ (s : Slots). IsPlaceOf s.classes c.in_ok-place.place) c.self.view_is c.in_ok-place.ensures.known))
