use Rattle.std.proofs.Common.{take}
use Rattle.dangling_isolator.specs.Marks.{ByObject}
use Rattle.dangling_isolator.proofs.finding.by_object.Given as goal

abbrev pub invariant-loop-mark : goal.invariant-loop-mark
invariant-loop-mark l = ByObject l.seen (take l.mark-index l.marks) l.found.entries
