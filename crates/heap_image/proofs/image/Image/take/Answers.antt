use Rattle.heap_image.proofs.image.Image.take.Goals as goal

pub image_of_heap-requires-clause-stands : goal.image_of_heap-requires-clause-stands
image_of_heap-requires-clause-stands c = c.is_spent.ensures.stands c.if-is_spent.false
