use Rattle.std.proofs.Common.{arith}
use Rattle.heap_image.proofs.Taken.{small_class}
use Rattle.heap_image.proofs.slots.slot_len.Goals as goal

pub overflow_shl-result : goal.overflow_shl-result
overflow_shl-result c = small_class c.args.slot.now.class (omega (arith, c.classes-classes.ensures.in_order.in_limit))
