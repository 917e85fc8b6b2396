use Rattle.std.proofs.Common.{[]}
use Rattle.heap_image.proofs.Between.{addrs_rise}
use Rattle.heap_image.proofs.image.Image.is_broken.Goals as goal

pub is_listed-requires : goal.is_listed-requires
is_listed-requires c = rw c.deref.ensures.value (record { rising = addrs_rise c.self.inside.seed c.self.inside.miniheaps.items c.self.inside.rows.items [] c.self.inside.broken.items c.self.invariant.broken })
