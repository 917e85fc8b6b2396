use Rattle.std.proofs.Common.{refl}
use Rattle.infinite_heap.specs.CallSite.{site_of}
use Rattle.infinite_heap.specs.InfiniteRun.{inf_run}
use Rattle.infinite_heap.specs.Lift.{lift}
use Rattle.infinite_heap.specs.Region.{is_valid_alignment}
use Rattle.infinite_heap.specs.Row.{row}
use Rattle.worked_cases.proofs.guests_blur.Goals as goal

pub returns : goal.returns
unfolding inf_run lift row site_of is_valid_alignment
returns c = record {
  prints_unset = record { ended = refl; counted = refl; printed = refl };
  region_address = record { ended = refl; counted = refl; printed = refl };
  unknown_address = record { ended = refl; counted = refl; printed = refl };
  pointer_call = record { ended = refl; counted = refl; printed = refl };
  pointer_exit = record { ended = refl; counted = refl; printed = refl };
  pointer_length = record { ended = refl; counted = refl; printed = refl };
  region_span = record { ended = refl; counted = refl; printed = refl };
  runs_pointer = record { ended = refl; counted = refl; printed = refl };
  runs_data = record { ended = refl; counted = refl; printed = refl };
  jumps_to_pointer = record { ended = refl; counted = refl; printed = refl };
  masks_too_much = record { ended = refl; counted = refl; printed = refl };
  pointer_alignment = record { ended = refl; counted = refl; printed = refl };
  aligned_pointer_size = record { ended = refl; counted = refl; printed = refl };
  reallocates_aligned = record { ended = refl; counted = refl; printed = refl };
}
