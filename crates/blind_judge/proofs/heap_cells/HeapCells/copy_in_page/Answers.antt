use Rattle.std.proofs.Common.{◌≡◌, ◌+◌, ◌<◌, ℕ, take, refl, sym, ap, ◌∙◌, arith, get_or-take, length-take-le}
use Rattle.std.specs.Option.{unwrap_or}
use Rattle.blind_judge.specs.declared.entries.Entry.{Entry}
use Rattle.blind_judge.specs.Entries.{cell_in}
use Rattle.blind_judge.specs.Pages.{entry_in}
use Rattle.blind_judge.specs.HeapCells.{entries_of}
use Rattle.blind_judge.proofs.Copied.{near_page}
use Rattle.blind_judge.proofs.heap_cells.HeapCells.copy_in_page.Goals as goal

pub returns-clause-copied : goal.returns-clause-copied
returns-clause-copied c =
    let here : (k : ℕ) → k < 64 → entry_in c.page_of-source.result k ≡ entries_of c.args.self.now.pages c.args.from (c.args.offset + k) = λ k small.
    ap (λ page. entry_in page k) c.page_of-source.ensures ∙ sym (near_page c.args.self.now.pages c.args.from c.args.offset k c.requires.start small) in
    record {
      cells = take c.args.count c.page_cells-cells.result;
      size = length-take-le c.args.count c.page_cells-cells.result (omega (arith, c.page_cells-cells.ensures.size));
      each = λ k less.
          get_or-take c.args.count c.page_cells-cells.result k c.args.begins less
          ∙ c.page_cells-cells.ensures.cells k (omega arith)
          ∙ ap (λ x. unwrap_or (cell_in x) c.args.begins) (here k (omega arith));
      marks = λ k. (entry_in c.page_of-source.result k).stored;
      marked = λ k small. ap (λ (x : Entry). x.stored) (here k small);
      fresh = c.in_ok-self.field-0;
      total = refl;
      stores = c.in_ok-self.ensures.stored;
    }
