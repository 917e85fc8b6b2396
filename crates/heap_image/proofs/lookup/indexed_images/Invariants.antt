use Rattle.std.proofs.Common.{◌≡◌, take}
use Rattle.heap_image.proofs.lookup.indexed_images.Given as goal

abbrev pub invariant-loop-image : goal.invariant-loop-image
invariant-loop-image l = l.all.items ≡ take l.image-index l.images
