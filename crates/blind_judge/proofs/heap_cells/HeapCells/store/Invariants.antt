use Rattle.std.proofs.Common.{◌≡◌, ◌+◌, ◌%◌, ◌^◌, length}
use Rattle.blind_judge.specs.HeapCells.{StoresFirst}
use Rattle.blind_judge.proofs.heap_cells.HeapCells.store.Given as goal

abbrev pub invariant-loop-rest : goal.invariant-loop-rest
invariant-loop-rest l =
    (first : StoresFirst l.fn.self l.self l.fn.object l.fn.offset l.fn.cells l.rest)
    × (l.at ≡ (l.fn.offset + length first.done) % 2 ^ 32)

abbrev pub decreases-loop-rest : goal.decreases-loop-rest
decreases-loop-rest l = length l.rest
