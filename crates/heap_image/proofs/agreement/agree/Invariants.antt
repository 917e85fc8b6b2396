use Rattle.std.proofs.Common.{ℕ, ◌<◌}
use Rattle.std.specs.List.{slice_index_or}
use Rattle.heap_image.specs.Snapshot.{Snapshot}
use Rattle.heap_image.specs.Agreement.{AreAlike}
use Rattle.heap_image.proofs.agreement.agree.Given as goal

abbrev pub invariant-loop-i : goal.invariant-loop-i
invariant-loop-i l = (j k : ℕ) (d : Snapshot) → j < k → k < l.i → AreAlike (slice_index_or l.images j d) (slice_index_or l.images k d)
