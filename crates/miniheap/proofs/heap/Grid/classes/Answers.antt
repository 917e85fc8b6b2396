use Rattle.std.proofs.Common.{subst}
use Rattle.miniheap.specs.Slots.{IsInOrder}
use Rattle.miniheap.proofs.OrderLemmas.{in_order}
use Rattle.miniheap.proofs.heap.Grid.classes.Goals as goal

pub returns-clause-in_order : goal.returns-clause-in_order
returns-clause-in_order c = subst IsInOrder c.self.view_is (in_order c.self.inside.places c.self.inside.states.items c.self.inside.taken c.classes.ensures.in_order c.self.invariant)
