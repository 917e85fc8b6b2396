use Rattle.heap_image.specs.Agreement.{allocation_of}
use Rattle.overflow_isolator.proofs.Apart.{apart_in}
use Rattle.overflow_isolator.proofs.agreed.window_beside.Goals as goal

pub returns-then-are_apart : goal.returns-then-are_apart
returns-then-are_apart c =
    apart_in c.args.first.now c.in-Some.window c.args.object c.args.gap (allocation_of c.args.row.now) c.args.image.now c.in-Some.ensures.1 c.if-are_apart.ensures
