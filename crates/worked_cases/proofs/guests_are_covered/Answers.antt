use Rattle.std.proofs.Common.{◌^◌, ◌<◌, ◌≤◌, arith}
use Rattle.infinite_heap.specs.CallSite.{site_of}
use Rattle.infinite_heap.specs.Covered.{power_from, IsCoveredRun}
use Rattle.infinite_heap.specs.InfiniteRun.{inf_run}
use Rattle.infinite_heap.specs.Lift.{lift}
use Rattle.infinite_heap.specs.Row.{row}
use Rattle.worked_cases.proofs.guests_are_covered.Goals as goal

pub returns : goal.returns
unfolding IsCoveredRun inf_run lift row site_of power_from
returns c = record {
  past_the_end = λ h. absurd (let w : 17 ≤ 16 = h.0.0.0.0.0.0.0.0.0.0.0.0.0.0.1.0.within in omega arith);
  past_the_end_padded = ((((((((((((((((((tt, tt), tt), tt), (record { within = omega arith; in_time = tt }, tt)), tt), tt), tt), tt), tt), tt), tt), tt), tt), tt), tt), tt), tt), tt);
  before_the_start = λ h. absurd (let w : 2 ^ 32 ≤ 0xfffffff0 = h.0.0.0.0.0.0.0.0.0.0.0.0.0.0.1.0.within.0 in omega arith);
  before_the_start_in_front = ((((((((((((((((((tt, tt), tt), tt), (record { within = (omega arith, omega arith); in_time = tt }, tt)), tt), tt), tt), tt), tt), tt), tt), tt), tt), tt), tt), tt), tt), tt);
  frees_twice = (((((((((((((tt, tt), tt), tt), tt), tt), tt), tt), tt), tt), (record { within = omega arith; in_time = omega arith }, tt)), tt), tt), tt);
  frees_later = λ h. absurd (let w : 2 ≤ 1 = h.0.0.0.1.0.in_time in omega arith);
  frees_later_deferred = ((((((((((((((((tt, tt), tt), tt), tt), tt), tt), tt), tt), tt), tt), tt), tt), (record { within = omega arith; in_time = omega arith }, tt)), tt), tt), tt);
  reads_freed_deferred = (((((((((((((((((((((((tt, tt), tt), tt), tt), tt), (record { within = omega arith; in_time = tt }, tt)), tt), tt), tt), tt), tt), tt), (record { within = omega arith; in_time = omega arith }, tt)), tt), tt), tt), tt), tt), tt), tt), tt), tt), tt);
  reads_later_deferred = λ h. absurd (let w : 3 < 3 = h.0.0.0.0.0.0.0.0.0.0.1.0.in_time in omega arith);
}
