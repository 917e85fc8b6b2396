use Rattle.std.proofs.Common.{◌≡◌, max, drop}
use Rattle.dangling_isolator.specs.Danglings.{greatest_clock}
use Rattle.dangling_isolator.proofs.finding.greatest_clock.Given as goal

abbrev pub invariant-loop-image : goal.invariant-loop-image
invariant-loop-image l = max l.seen (greatest_clock (drop l.image-index l.images)) ≡ greatest_clock l.images
