use Rattle.std.proofs.Common.{refl}
use Rattle.infinite_heap.specs.CallSite.{site_of}
use Rattle.infinite_heap.specs.InfiniteRun.{inf_run}
use Rattle.infinite_heap.specs.Lift.{lift}
use Rattle.infinite_heap.specs.Row.{row}
use Rattle.worked_cases.proofs.guests_read.Goals as goal

pub returns : goal.returns
unfolding inf_run lift row site_of
returns c = record {
  echoes = refl;
  echoes_at_end = refl;
  echoes_before = refl;
  echoes_writes = refl;
}
