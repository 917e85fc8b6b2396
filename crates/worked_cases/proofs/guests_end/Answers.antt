use Rattle.std.proofs.Common.{refl}
use Rattle.infinite_heap.specs.CallSite.{site_of}
use Rattle.infinite_heap.specs.InfiniteRun.{inf_run}
use Rattle.infinite_heap.specs.Lift.{lift}
use Rattle.infinite_heap.specs.Region.{is_valid_alignment}
use Rattle.infinite_heap.specs.Row.{row}
use Rattle.worked_cases.proofs.guests_end.Goals as goal

pub returns : goal.returns
unfolding inf_run lift row site_of is_valid_alignment
returns c = record {
  empty_objects = record { ended = refl; counted = refl; printed = refl };
  largest_size = record { ended = refl; counted = refl; printed = refl };
  past_the_end = record { ended = refl; counted = refl; printed = refl };
  before_the_start = record { ended = refl; counted = refl; printed = refl };
  frees_twice = record { ended = refl; counted = refl; printed = refl };
  frees_later = record { ended = refl; counted = refl; printed = refl };
  reads_freed = record { ended = refl; counted = refl; printed = refl };
  reads_later = record { ended = refl; counted = refl; printed = refl };
  prints_pointer = record { ended = refl; counted = refl; printed = refl };
  copies_pointer = record { ended = refl; counted = refl; printed = refl };
  seeks_zero = record { ended = refl; counted = refl; printed = refl };
  seeks_zero_zeroed = record { ended = refl; counted = refl; printed = refl };
  grows_zeros = record { ended = refl; counted = refl; printed = refl };
  reallocates = record { ended = refl; counted = refl; printed = refl };
  frees_others = record { ended = refl; counted = refl; printed = refl };
  skips_argument = record { ended = refl; counted = refl; printed = refl };
  odd_return = record { ended = refl; counted = refl; printed = refl };
  misaligned_return = record { ended = refl; counted = refl; printed = refl };
  pointer_return = record { ended = refl; counted = refl; printed = refl };
  pointer_size = record { ended = refl; counted = refl; printed = refl };
  fills_to_end = record { ended = refl; counted = refl; printed = refl };
  compares_numbers = record { ended = refl; counted = refl; printed = refl };
  tags_pointer = record { ended = refl; counted = refl; printed = refl };
  joins_halves = record { ended = refl; counted = refl; printed = refl };
  echoes = record { ended = refl; counted = refl; printed = refl };
  echoes_on_err = refl;
  echoes_what_is_read = refl;
  misaligned_load = record { ended = refl; counted = refl; printed = refl };
  misaligned_store = record { ended = refl; counted = refl; printed = refl };
  misaligned_branch = record { ended = refl; counted = refl; printed = refl };
  other_call = record { ended = refl; counted = refl; printed = refl };
  frees_numbers = record { ended = refl; counted = refl; printed = refl };
  aligns_pointers = record { ended = refl; counted = refl; printed = refl };
  asks_alignments = record { ended = refl; counted = refl; printed = refl };
  largest_aligned = record { ended = refl; counted = refl; printed = refl };
  allocates_aligned = record { ended = refl; counted = refl; printed = refl };
  skips_before_alignment = record { ended = refl; counted = refl; printed = refl };
}
