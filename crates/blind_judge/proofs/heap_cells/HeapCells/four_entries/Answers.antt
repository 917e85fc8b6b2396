use Rattle.std.proofs.Common.{◌≡◌, ◌/◌, None, sym, ap, ◌∙◌, arith}
use Rattle.std.specs.Option.{option_copied}
use Rattle.std.specs.BTreeMap as tree
use Rattle.blind_judge.specs.HeapCells.{page_cmp}
use Rattle.blind_judge.proofs.PageTree.{no_page, no_page_near}
use Rattle.blind_judge.proofs.heap_cells.HeapCells.four_entries.Goals as goal

pub returns-in-None : goal.returns-in-None
returns-in-None c =
    let none : tree.get page_cmp c.args.self.now.pages (c.args.object, c.args.offset / 64) ≡ None = sym c.get.ensures.value ∙ ap option_copied c.in-None.is in
    let e0 = no_page c.args.self.now.pages c.args.object c.args.offset none in
    let e1 = no_page_near c.args.self.now.pages c.args.object c.args.offset 1 c.requires (omega arith) none in
    let e2 = no_page_near c.args.self.now.pages c.args.object c.args.offset 2 c.requires (omega arith) none in
    let e3 = no_page_near c.args.self.now.pages c.args.object c.args.offset 3 c.requires (omega arith) none in
    cc
