use Rattle.std.proofs.Common.{take}
use Rattle.overflow_isolator.specs.Found.{AreFoundIn}
use Rattle.overflow_isolator.specs.Overflows.{IsGreatestOverflow}
use Rattle.overflow_isolator.proofs.finding.overflows_by_object.Given as goal

abbrev pub invariant-loop-row : goal.invariant-loop-row
invariant-loop-row l = AreFoundIn (λ f. f.object) (IsGreatestOverflow l.images) (take l.row-index l.rows) l.found.entries
