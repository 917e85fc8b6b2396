-- Slots that objects hold are held.
use Rattle.std.proofs.Common.{◌≡◌, sym, ◌∙◌, ap}
use Rattle.std.specs.FinSet.{contains}
use Rattle.std.proofs.lemmas.Option.{same_Some}
use Rattle.miniheap.specs.declared.place.Slot.{Slot}
use Rattle.miniheap.specs.Laws.{SlotLaws}
use Rattle.exact_heap.specs.History.{held_by, slots_of}
use Rattle.exact_heap.specs.HeldSlots.{HoldersHaveHeldSlots}
use Rattle.exact_heap.proofs.SlotPlaces.{held_state}
use Rattle.exact_heap.proofs.LawsQuiet.{own_state}
use Rattle.exact_heap.proofs.LawsHeldCalls.{in_held}

pub holders_have_held_slots : SlotLaws → HoldersHaveHeldSlots
holders_have_held_slots laws h number a t l k e =
    let u = in_held laws h number a l k in
    let same : u.slot ≡ t = same_Some u.slot t (sym u.found ∙ e) in
    own_state (slots_of h) a t e ∙ held_state (slots_of h) t.addr (ap (λ (x : Slot). contains (held_by h.objects) x.addr) (sym same) ∙ u.held)
