use Rattle.std.proofs.Common.{◌≡◌, IfOk, ℕ, subst, sym}
use Rattle.exact_heap.specs.Heaps.{StandsFor}
use Rattle.exact_heap.specs.declared.heap.Heap.{Heap}
use Rattle.exact_heap.specs.declared.signal.Place.TheVariants.{Call}
use Rattle.heap_image.specs.Snapshot.{Snapshot}
use Rattle.heap_image.specs.Taken.{image_of_guest}
use Rattle.rv_machine.specs.Stands.{tag_in}
use Rattle.replicate.proofs.Gated.{awaits-as}
use Rattle.replicate.proofs.seat.Seat.image.Goals as goal

pub returns-in_default : goal.returns-in_default
returns-in_default c = λ r so.
    let at = awaits-as r c.args.self.now.state c.args.self.now.machine c.args.self.now.place so.stands in
    let calls : c.calls.result ≡ r.flat.guest.history.calls = c.calls.ensures.stands r.flat.guest.history (subst (λ (h : Heap). StandsFor h r.flat.guest.history) (sym c.heap.ensures) at.1.history) in
    subst (λ (n : ℕ). IfOk c.take.result (λ (image : Snapshot). image ≡ image_of_guest (tag_in c.args.self.now.machine) (Call n) r.flat.guest)) calls (c.take.ensures r.flat.guest at.0 at.1)
