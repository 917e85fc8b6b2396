use Rattle.std.proofs.Common.{◌≡◌, ◌<◌, ◌+◌, ◌^◌, ◌++◌, map, drop, length, string_bytes}
use Rattle.infinite_heap.specs.Start.{addresses_from, string_block}
use Rattle.rv_machine.proofs.stack.push_addresses.Given as goal

abbrev pub invariant-loop-arg : goal.invariant-loop-arg
invariant-loop-arg l = (l.bytes.items ++ addresses_from l.next (map string_bytes (drop l.arg-index l.args)) ≡ l.initial.bytes.items ++ addresses_from l.at (map string_bytes l.args)) × (l.next + length (string_block (map string_bytes (drop l.arg-index l.args))) < 2 ^ 32)
