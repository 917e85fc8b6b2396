use Rattle.std.proofs.Common.{take}
use Rattle.overflow_isolator.specs.Found.{AreFoundIn}
use Rattle.overflow_isolator.specs.Overflows.{IsGreatestUnderflow}
use Rattle.overflow_isolator.proofs.finding_underflows.underflows_by_object.Given as goal

abbrev pub invariant-loop-row : goal.invariant-loop-row
invariant-loop-row l = AreFoundIn (λ f. f.object) (IsGreatestUnderflow l.images) (take l.row-index l.rows) l.found.entries
