use Rattle.std.proofs.Common.{refl}
use Rattle.infinite_heap.specs.CallSite.{site_of}
use Rattle.infinite_heap.specs.InfiniteRun.{inf_run}
use Rattle.infinite_heap.specs.Lift.{lift}
use Rattle.infinite_heap.specs.Region.{is_valid_alignment}
use Rattle.infinite_heap.specs.Row.{row}
use Rattle.worked_cases.proofs.guests_leave.Goals as goal

pub returns : goal.returns
unfolding inf_run lift row site_of is_valid_alignment
returns c = record {
  empty_objects = record { recorded = refl; left = refl };
  largest_size = record { recorded = refl; left = refl };
  past_the_end = record { recorded = refl; left = refl };
  before_the_start = record { recorded = refl; left = refl };
  frees_twice = record { recorded = refl; left = refl };
  frees_later = record { recorded = refl; left = refl };
  reads_freed = record { recorded = refl; left = refl };
  reads_later = record { recorded = refl; left = refl };
  prints_pointer = record { recorded = refl; left = refl };
  grows_zeros = record { recorded = refl; left = refl };
  reallocates = record { recorded = refl; left = refl };
  frees_others = record { recorded = refl; left = refl };
  skips_argument = record { recorded = refl; left = refl };
  odd_return = record { recorded = refl; left = refl };
  misaligned_return = record { recorded = refl; left = refl };
  zeroed = record { recorded = refl; left = refl };
  aligns_pointers = record { recorded = refl; left = refl };
  asks_alignments = record { recorded = refl; left = refl };
  largest_aligned = record { recorded = refl; left = refl };
  allocates_aligned = record { recorded = refl; left = refl };
  skips_before_alignment = record { recorded = refl; left = refl };
  reallocates_aligned = record { recorded = refl; left = refl };
  zeroed_aligned = record { recorded = refl; left = refl };
}
