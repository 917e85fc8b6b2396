use Rattle.std.proofs.Common.{◌≡◌, ◌++◌, map}
use Rattle.dangling_isolator.proofs.finding.in_order.Given as goal

abbrev pub invariant-loop-dangling : goal.invariant-loop-dangling
invariant-loop-dangling l = l.list.items ++ l.dangling-iterator ≡ map (λ e. e.1) l.found.entries
