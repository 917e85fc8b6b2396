use Rattle.std.proofs.Common.{◌≡◌, ◌++◌, map}
use Rattle.overflow_isolator.proofs.finding.overflows_in_order.Given as goal

abbrev pub invariant-loop-overflow : goal.invariant-loop-overflow
invariant-loop-overflow l = l.list.items ++ l.overflow-iterator ≡ map (λ e. e.1) l.found.entries
