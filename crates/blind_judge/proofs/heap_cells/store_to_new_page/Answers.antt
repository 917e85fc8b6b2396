use Rattle.std.proofs.Common.{◌≡◌, ap, ◌∙◌}
use Rattle.std.specs.Box.{with_value}
use Rattle.blind_judge.specs.Pages.{empty_page}
use Rattle.blind_judge.specs.Pages.{marks_of}
use Rattle.blind_judge.specs.HeapCells.{page_in}
use Rattle.blind_judge.proofs.PageTree.{stores_in_page}
use Rattle.blind_judge.proofs.heap_cells.store_to_new_page.Goals as goal

pub returns-clause-stored : goal.returns-clause-stored
returns-clause-stored c =
    let empty : empty_page ≡ c.deref_mut.result.now = cc (c.in_ok-page.ensures.ok) in
    stores_in_page c.args.pages.now c.insert.new.self c.args.object c.args.number c.args.at c.store_entries-fresh.result (marks_of c.args.marks) c.args.cells.now c.deref_mut.result.now (with_value c.in_ok-page.page c.store_entries-fresh.new.page)
    (ap page_in c.requires.missing ∙ empty) c.store_entries-fresh.ensures.stored c.store_entries-fresh.ensures.count c.store_entries-fresh.ensures.few c.store_entries-fresh.ensures.whole (c.in_ok-insert.ensures.updates.0)
