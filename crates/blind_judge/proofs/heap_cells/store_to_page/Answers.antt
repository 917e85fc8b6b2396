use Rattle.std.proofs.Common.{◌≡◌, Some, sym, ap, ◌∙◌}
use Rattle.std.specs.BTreeMap as tree
use Rattle.std.specs.Box.{with_value}
use Rattle.std.specs.Option.{is_some, option_copied_mut}
use Rattle.blind_judge.specs.Pages.{marks_of}
use Rattle.blind_judge.specs.HeapCells.{page_cmp, page_in}
use Rattle.blind_judge.proofs.PageTree.{stores_in_page}
use Rattle.blind_judge.proofs.heap_cells.store_to_page.Goals as goal

pub returns-in-Some-clause-stored : goal.returns-in-Some-clause-stored
returns-in-Some-clause-stored c =
    let page = with_value c.in-Some.page.now c.store_entries.new.page in
    let here : tree.get page_cmp c.args.pages.now (c.args.object, c.args.number) ≡ Some c.in-Some.page.now = sym c.get_mut.ensures.value ∙ ap option_copied_mut c.in-Some.is in
    stores_in_page c.args.pages.now (c.get_mut.follows.lender page) c.args.object c.args.number c.args.at c.store_entries.result (marks_of c.args.marks) c.args.cells.now c.deref_mut.result.now page
    (ap page_in here ∙ sym c.deref_mut.ensures.value) c.store_entries.ensures.stored c.store_entries.ensures.count c.store_entries.ensures.few c.store_entries.ensures.whole (((c.get_mut.follows.holds page).3 (ap is_some here)).0)
