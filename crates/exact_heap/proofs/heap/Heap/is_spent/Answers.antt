use Rattle.std.proofs.Math.Logic.{∥∥₁_map}
use Rattle.exact_heap.specs.History.{History}
use Rattle.exact_heap.specs.Stands.{PartsStandFor}
use Rattle.exact_heap.specs.Heaps.{StandsFor}
use Rattle.exact_heap.proofs.heap.Heap.is_spent.Goals as goal

pub returns-clause-stands : goal.returns-clause-stands
returns-clause-stands c e = ∥∥₁_map c.args.self.now.sound (λ (x : (h : History) × PartsStandFor c.args.self.now.parts h). let s : StandsFor c.args.self.now x.0 = record { parts = x.1; lives = e } in (x.0, s))
