use Rattle.std.proofs.Common.{refl}
use Rattle.infinite_heap.specs.CallSite.{site_of}
use Rattle.infinite_heap.specs.InfiniteRun.{inf_run}
use Rattle.infinite_heap.specs.Lift.{lift}
use Rattle.infinite_heap.specs.Row.{row}
use Rattle.worked_cases.proofs.guests_store.Goals as goal

pub returns : goal.returns
unfolding inf_run lift row site_of
returns c = record {
  past_the_end = refl;
  copies_pointer = refl;
  seeks_zero = refl;
  grows_zeros = refl;
  reallocates = refl;
  tags_pointer = refl;
  echoes = refl;
}
