use Rattle.std.proofs.Common.{◌≡◌, Some, None, rules, sym, ap, ◌∙◌, subst}
use Rattle.miniheap.specs.declared.place.Slot.{Slot}
use Rattle.miniheap.specs.Places.{IsPlaceOf}
use Rattle.miniheap.specs.Slots.{Slots}
use Rattle.miniheap.proofs.StateLemmas.{found_slot, no_slot}
use Rattle.miniheap.proofs.heap.Grid.slot_at.Goals as goal

pub returns-in_err-place-clause-slot : goal.returns-in_err-place-clause-slot
returns-in_err-place-clause-slot c =
    let e : c.from_residual.result ≡ None = search rules in
    let q : c.slot_at.result ≡ None = search rules in
    e ∙ sym (no_slot c.self.inside.places c.self.inside.states.items c.args.self.now c.self.view_is c.args.addr (sym c.slot_at.ensures.slot ∙ q))

pub returns-clause-slot : goal.returns-clause-slot
returns-clause-slot c =
    let q : c.slot_at.result ≡ Some c.in_ok-place.place = search rules in
    ap (λ (t : Slot). Some t) c.slot.ensures
    ∙ sym (found_slot c.self.inside.places c.self.inside.states.items c.args.self.now c.self.view_is c.args.addr c.in_ok-place.place (sym c.slot_at.ensures.slot ∙ q)
    (subst (λ (s : Slots). IsPlaceOf s.classes c.in_ok-place.place) c.self.view_is c.in_ok-place.ensures.known))
