use Rattle.std.proofs.Common.{◌≡◌, Some, sym, subst}
use Rattle.miniheap.specs.declared.place.Slot.{Slot}
use Rattle.miniheap.specs.Places.{IsPlaceOf}
use Rattle.miniheap.specs.Slots.{Slots, slot_at}
use Rattle.miniheap.proofs.SlotsLemmas.{nth_slot_at}
use Rattle.miniheap.proofs.heap.Grid.numbered.Goals as goal

pub returns-clause-found : goal.returns-clause-found
returns-clause-found c =
    let of : IsPlaceOf c.args.self.now.classes c.numbered.result = subst (λ (s : Slots). IsPlaceOf s.classes c.numbered.result) c.self.view_is c.numbered.ensures.known in
    subst (λ (t : Slot). slot_at c.args.self.now t.addr ≡ Some t) (sym c.slot.ensures) (nth_slot_at c.args.self.now c.numbered.result.mini c.numbered.result.nth of.mini_known of.nth_known)
