use Rattle.std.proofs.Common.{◌≡◌, replicate}
use Rattle.exact_heap.specs.RowStore.{no_rows}
use Rattle.exact_heap.proofs.rows.empty_line.Given as goal

abbrev pub invariant-loop-made : goal.invariant-loop-made
invariant-loop-made l = l.chunks.items ≡ replicate l._made no_rows
