use Rattle.std.proofs.Common.{refl}
use Rattle.infinite_heap.specs.CallSite.{site_of}
use Rattle.infinite_heap.specs.InfiniteRun.{inf_run}
use Rattle.infinite_heap.specs.Lift.{lift}
use Rattle.infinite_heap.specs.Row.{row}
use Rattle.worked_cases.proofs.guests_record.Goals as goal

pub returns : goal.returns
unfolding inf_run lift row site_of
returns c = record {
  fills_to_end = refl;
  compares_numbers = refl;
  tags_pointer = refl;
  joins_halves = refl;
  echoes = refl;
  prints_unset = refl;
  misaligned_load = refl;
  misaligned_store = refl;
  misaligned_branch = refl;
  pointer_length = refl;
  frees_numbers = refl;
}
