use Rattle.std.proofs.Common.{◌≡◌, drop}
use Rattle.dangling_isolator.specs.Marks.{kept_in, common_in}
use Rattle.dangling_isolator.proofs.finding.common_marks.Given as goal

abbrev pub invariant-loop-image : goal.invariant-loop-image
invariant-loop-image l = kept_in l.common.items (drop l.image-index (drop 1 l.images)) ≡ common_in l.images
