use Rattle.std.proofs.Common.{◌≡◌, ◌++◌, map}
use Rattle.overflow_isolator.proofs.finding_underflows.underflows_in_order.Given as goal

abbrev pub invariant-loop-underflow : goal.invariant-loop-underflow
invariant-loop-underflow l = l.list.items ++ l.underflow-iterator ≡ map (λ e. e.1) l.found.entries
