-- What the fields of a queue stand for.
use Rattle.std.specs.Prelude.{◌+◌, ◌≤◌, map}
use Rattle.std.specs.BinaryHeap.{heap_items, heap_len, heap_capacity, IsHeap}
use Rattle.deferral_queue.specs.declared.Queue.TheInside.{Inside}
use Rattle.deferral_queue.specs.Order.{due_order}
use Rattle.deferral_queue.specs.Deferrals.{Deferrals, sorted_dues}

abbrev pub deferrals : Inside → Deferrals
deferrals q = record { dues = sorted_dues (map (λ r. r.0) (heap_items q.heap)); spare = q.spare }

-- no entry of the heap comes before the one above it, and the spare room is there
pub record IsKept (q : Inside) : Type 0 where
  pub ordered : IsHeap (λ a b. due_order b.0 a.0) (heap_items q.heap)
  pub room : heap_len q.heap + q.spare ≤ heap_capacity q.heap
