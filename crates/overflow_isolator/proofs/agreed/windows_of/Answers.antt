use Rattle.heap_image.specs.Agreement.{allocation_of}
use Rattle.overflow_isolator.proofs.Apart.{nothing_agreed, window_at}
use Rattle.overflow_isolator.proofs.agreed.windows_of.Goals as goal

pub returns-in-None : goal.returns-in-None
returns-in-None c =
    nothing_agreed c.args.images.now c.args.object c.args.gap 0 (allocation_of c.args.row.now) c.index-images-0.result c.requires c.index-images-0.is c.in-None.ensures

pub windows_beside-requires-clause-first : goal.windows_beside-requires-clause-first
windows_beside-requires-clause-first c = λ d. window_at c.args.images.now c.args.object c.args.gap 0 c.index-images-0.result d c.in-Some.first c.requires c.index-images-0.is c.in-Some.ensures.1
