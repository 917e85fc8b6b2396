use Rattle.std.proofs.Common.{◌+◌, ◌-◌, ◌^◌, ◌<◌, ◌≤◌, refl, arith}
use Rattle.infinite_heap.specs.Covered.{power_from}
use Rattle.worked_cases.proofs.accesses_are_covered.Goals as goal

pub returns : goal.returns
unfolding power_from
returns c = record {
  within_reach = (
    (record { within = omega arith; in_time = tt }, λ h. absurd (let w : 33 ≤ 32 = h.within in omega arith)),
    (record { within = omega arith; in_time = tt }, λ h. absurd (let w : 33 ≤ 32 = h.within in omega arith)),
    (record { within = omega arith; in_time = tt }, λ h. absurd (let w : 33 ≤ 32 = h.within in omega arith)),
    (record { within = omega arith; in_time = omega arith }, λ h. absurd (let w : 17 ≤ 16 = h.within in omega arith)),
    (record { within = omega arith; in_time = omega arith }, λ h. absurd (let w : 17 ≤ 16 = h.within in omega arith)),
  );
  within_front = (
    (record { within = (omega arith, omega arith); in_time = tt }, λ h. absurd (let w : 2 ^ 32 ≤ 2 ^ 32 - 1 = h.within.0 in omega arith)),
    (record { within = (omega arith, omega arith); in_time = tt }, λ h. absurd (let w : 2 ^ 32 ≤ 2 ^ 32 - 1 = h.within.0 in omega arith)),
    (record { within = (omega arith, omega arith); in_time = tt }, λ h. absurd (let w : 2 ^ 32 + 17 ≤ 2 ^ 32 + 16 = h.within.1 in omega arith)),
    λ h. absurd (let w : 2 ^ 32 ≤ 2 ^ 32 - 1 = h.within.0 in omega arith),
    λ h. absurd (let w : 2 ^ 32 ≤ 2 ^ 32 - 2 = h.within.0 in omega arith),
    (record { within = (omega arith, omega arith); in_time = tt }, λ h. absurd (let w : 2 ^ 31 ≤ 16 = h.within in omega arith)),
    (record { within = omega arith; in_time = tt }, λ h. absurd (let w : 17 ≤ 16 = h.within in omega arith)),
  );
  in_time = (
    (record { within = omega arith; in_time = omega arith }, λ h. absurd (let w : 7 < 7 = h.in_time in omega arith)),
    (record { within = omega arith; in_time = omega arith }, λ h. absurd (let w : 7 < 7 = h.in_time in omega arith)),
    (record { within = omega arith; in_time = omega arith }, λ h. absurd (let w : 7 < 7 = h.in_time in omega arith)),
    (record { within = omega arith; in_time = omega arith }, λ h. absurd (let w : 8 ≤ 7 = h.in_time in omega arith)),
    (record { within = omega arith; in_time = omega arith }, λ h. absurd (let w : 4 ≤ 3 = h.in_time in omega arith)),
  );
  out_of_time = (
    λ h. absurd (let w : 3 < 3 = h.in_time in omega arith),
    λ h. absurd (let w : 3 < 3 = h.in_time in omega arith),
    λ h. absurd (let w : 3 < 3 = h.in_time in omega arith),
    λ h. absurd h.in_time,
  );
  front_apart = (refl, refl);
  reach = (refl, refl, refl, refl, refl, refl, refl, refl);
}
