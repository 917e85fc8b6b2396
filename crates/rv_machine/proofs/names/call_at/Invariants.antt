use Rattle.std.proofs.Common.{◌≡◌, drop}
use Rattle.infinite_heap.specs.InfiniteHeap.{call_at}
use Rattle.rv_machine.proofs.names.call_at.Given as goal

abbrev pub invariant-loop-name : goal.invariant-loop-name
invariant-loop-name l = call_at l.names l.addr ≡ call_at (drop l.name-index l.names) l.addr
