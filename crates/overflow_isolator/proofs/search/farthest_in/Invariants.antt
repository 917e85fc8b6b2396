use Rattle.overflow_isolator.proofs.Windows.{NoneTo}
use Rattle.overflow_isolator.proofs.search.farthest_in.Given as goal

abbrev pub invariant-loop-byte : goal.invariant-loop-byte
invariant-loop-byte l = NoneTo l.windows l.window l.breaks l.byte-index
