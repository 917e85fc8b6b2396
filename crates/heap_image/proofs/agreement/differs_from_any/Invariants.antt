use Rattle.std.proofs.Common.{take}
use Rattle.std.specs.List.{All}
use Rattle.heap_image.specs.Agreement.{AreAlike}
use Rattle.heap_image.proofs.agreement.differs_from_any.Given as goal

abbrev pub invariant-loop-earlier : goal.invariant-loop-earlier
invariant-loop-earlier l = All (λ s. AreAlike s l.image) (take l.earlier-index l.images)
