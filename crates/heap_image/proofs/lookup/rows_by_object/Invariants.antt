use Rattle.std.proofs.Common.{◌≡◌, ◌-◌, ℕ, drop, length}
use Rattle.std.specs.Prelude.{find}
use Rattle.std.specs.BTreeMap.{get}
use Rattle.std.specs.Ordering.{nat_cmp}
use Rattle.heap_image.specs.Agreement.{is_row_of}
use Rattle.heap_image.proofs.lookup.rows_by_object.Given as goal

abbrev pub invariant-loop-k : goal.invariant-loop-k
invariant-loop-k l = (object : ℕ) → get nat_cmp l.by_object object ≡ find (is_row_of object) (drop (length l.rows - l.k) l.rows)
