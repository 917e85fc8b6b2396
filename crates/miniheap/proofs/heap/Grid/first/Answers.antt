use Rattle.std.proofs.Common.{◌≡◌, Some, None, rules, sym, ap, ◌∙◌, subst}
use Rattle.miniheap.specs.declared.place.Slot.{Slot}
use Rattle.miniheap.specs.Layout.{heap_from}
use Rattle.miniheap.specs.Places.{IsPlaceOf}
use Rattle.miniheap.specs.Slots.{Slots}
use Rattle.miniheap.proofs.StateLemmas.{found_slot, no_slot, slot_number_is, no_slot_number}
use Rattle.miniheap.proofs.heap.Grid.first.Goals as goal

pub returns-in_err-place-clause-first : goal.returns-in_err-place-clause-first
returns-in_err-place-clause-first c =
    let e : c.from_residual.result ≡ None = search rules in
    let q : c.first.result ≡ None = search rules in
    e ∙ sym (no_slot_number c.self.inside.places c.self.inside.states.items c.args.self.now c.self.view_is 0 (sym c.first.ensures.first ∙ q))

pub returns-in_err-place-clause-from : goal.returns-in_err-place-clause-from
returns-in_err-place-clause-from c =
    let e : c.from_residual.result ≡ None = search rules in
    let q : c.first.result ≡ None = search rules in
    e ∙ sym (no_slot c.self.inside.places c.self.inside.states.items c.args.self.now c.self.view_is heap_from (sym c.first.ensures.from ∙ q))

pub returns-clause-first : goal.returns-clause-first
returns-clause-first c =
    let q : c.first.result ≡ Some c.in_ok-place.place = search rules in
    ap (λ (t : Slot). Some t) c.slot.ensures
    ∙ sym (slot_number_is c.self.inside.places c.self.inside.states.items c.args.self.now c.self.view_is 0 c.in_ok-place.place (sym c.first.ensures.first ∙ q) (subst (λ (s : Slots). IsPlaceOf s.classes c.in_ok-place.place) c.self.view_is c.in_ok-place.ensures.known))

pub returns-clause-from : goal.returns-clause-from
returns-clause-from c =
    let q : c.first.result ≡ Some c.in_ok-place.place = search rules in
    ap (λ (t : Slot). Some t) c.slot.ensures
    ∙ sym (found_slot c.self.inside.places c.self.inside.states.items c.args.self.now c.self.view_is heap_from c.in_ok-place.place (sym c.first.ensures.from ∙ q) (subst (λ (s : Slots). IsPlaceOf s.classes c.in_ok-place.place) c.self.view_is c.in_ok-place.ensures.known))
