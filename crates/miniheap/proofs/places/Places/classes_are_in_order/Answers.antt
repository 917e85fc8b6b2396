use Rattle.miniheap.proofs.PlaceLemmas.{rows_are}
use Rattle.miniheap.proofs.places.Places.classes_are_in_order.Goals as goal

pub returns : goal.returns
returns c = let ok = rows_are c.self.inside c.self.invariant c.args.self.now c.self.view_is in record { in_range = ok.in_classes; in_limit = ok.in_limit }
