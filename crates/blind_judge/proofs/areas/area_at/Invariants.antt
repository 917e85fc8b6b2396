use Rattle.std.proofs.Common.{◌≡◌, drop}
use Rattle.blind_judge.specs.Areas.{area_at}
use Rattle.blind_judge.proofs.areas.area_at.Given as goal

abbrev pub invariant-loop-area : goal.invariant-loop-area
invariant-loop-area l = area_at l.areas l.x ≡ area_at (drop l.area-index l.areas) l.x
