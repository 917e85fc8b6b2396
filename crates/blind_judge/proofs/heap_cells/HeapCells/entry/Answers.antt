use Rattle.std.proofs.Common.{sym, ap, ◌∙◌}
use Rattle.std.specs.Option.{option_copied}
use Rattle.blind_judge.proofs.PageTree.{no_page}
use Rattle.blind_judge.proofs.heap_cells.HeapCells.entry.Goals as goal

pub returns-in-None : goal.returns-in-None
returns-in-None c = sym (no_page c.args.self.now.pages c.args.object c.args.offset (sym c.get.ensures.value ∙ ap option_copied c.in-None.is))
