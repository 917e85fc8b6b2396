use Rattle.std.proofs.Common.{◌-◌, length}
use Rattle.overflow_isolator.proofs.Windows.{NoneFrom}
use Rattle.overflow_isolator.proofs.search.nearest_in.Given as goal

abbrev pub invariant-loop-k : goal.invariant-loop-k
invariant-loop-k l = NoneFrom l.windows l.window l.breaks (length l.breaks - l.k)
