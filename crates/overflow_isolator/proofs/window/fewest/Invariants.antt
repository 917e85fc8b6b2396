use Rattle.std.proofs.Common.{◌<◌, length}
use Rattle.overflow_isolator.proofs.window.fewest.Given as goal

abbrev pub invariant-loop-k : goal.invariant-loop-k
invariant-loop-k l = l.at < length l.windows
