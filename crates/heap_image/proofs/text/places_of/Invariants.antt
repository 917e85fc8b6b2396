use Rattle.std.proofs.Common.{◌≡◌, take}
use Rattle.heap_image.proofs.text.places_of.Given as goal

abbrev pub invariant-loop-class : goal.invariant-loop-class
invariant-loop-class l = l.places ≡ take l.class-index l.classes
