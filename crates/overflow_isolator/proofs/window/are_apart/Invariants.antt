use Rattle.std.proofs.Common.{◌+◌, ◌-◌, length}
use Rattle.overflow_isolator.proofs.Apart.{AreUnmet}
use Rattle.overflow_isolator.proofs.window.are_apart.Given as goal

abbrev pub invariant-walk : goal.invariant-walk
invariant-walk l = AreUnmet l.one l.other l.ones l.others l.i l.j

abbrev pub decreases-walk : goal.decreases-walk
decreases-walk l = length l.ones - l.i + (length l.others - l.j)
