use Rattle.std.proofs.Common.{◌≡◌, ◌++◌, map, drop, string_bytes}
use Rattle.infinite_heap.specs.Start.{string_block}
use Rattle.rv_machine.proofs.stack.strings_of.Given as goal

abbrev pub invariant-loop-arg : goal.invariant-loop-arg
invariant-loop-arg l = l.block.items ++ string_block (map string_bytes (drop l.arg-index l.args)) ≡ string_block (map string_bytes l.args)
