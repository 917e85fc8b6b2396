use Rattle.std.proofs.Common.{[]}
use Rattle.heap_image.proofs.Listed.{class_at}
use Rattle.heap_image.proofs.image.Image.places.Goals as goal

pub places_of-requires : goal.places_of-requires
places_of-requires c = rw c.deref.ensures.value (λ i lt. class_at [] c.self.inside.miniheaps.items c.self.invariant.miniheaps i lt)
