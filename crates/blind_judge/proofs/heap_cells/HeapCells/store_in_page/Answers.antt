use Rattle.std.proofs.Common.{refl, true}
use Rattle.blind_judge.proofs.Kept.{written_in_page}
use Rattle.blind_judge.proofs.heap_cells.HeapCells.store_in_page.Goals as goal

pub returns-clause-stored : goal.returns-clause-stored
returns-clause-stored c = λ written h.
    written_in_page c.args.self.now.pages c.store_to_pages.new.pages c.args.object c.args.offset (λ place. true) (λ offset. true) c.args.cells.now c.in_ok-self.field-0 c.args.self.now.count written
    c.ranges.offset.fits c.requires (λ i small. refl) c.in_ok-self.ensures.stored h
