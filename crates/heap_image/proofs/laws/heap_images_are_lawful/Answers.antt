use Rattle.heap_image.proofs.HeapImages.{heap_images_are_lawful}
use Rattle.heap_image.proofs.laws.heap_images_are_lawful.Goals as goal

pub returns : goal.returns
returns c = heap_images_are_lawful c.places_hold_the_slots.ensures.slots c.slots_have_their_places.ensures.follow c.slots_are_counted.ensures.few c.histories_stay_lawful.ensures.timed
