use Rattle.elf_load.specs.Order.{Chained}
use Rattle.elf_load.proofs.order.is_chained.Given as goal

abbrev pub invariant-loop-i : goal.invariant-loop-i
invariant-loop-i l = Chained l.headers l.i
