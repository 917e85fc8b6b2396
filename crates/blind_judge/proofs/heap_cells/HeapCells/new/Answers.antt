use Rattle.std.proofs.Common.{◌≡◌, ℕ, ◌/◌, None, ap, refl, rules}
use Rattle.std.specs.BTreeMap as tree
use Rattle.std.specs.Option.{unwrap_or}
use Rattle.blind_judge.specs.declared.entries.Entry.{Entry}
use Rattle.blind_judge.specs.Entries.{cell_in, no_entry}
use Rattle.blind_judge.specs.HeapCells.{page_cmp, entries_of}
use Rattle.blind_judge.proofs.PageTree.{no_page}
use Rattle.blind_judge.proofs.heap_cells.HeapCells.new.Goals as goal

pub returns : goal.returns
returns c =
    let none : (o n : ℕ) → tree.get page_cmp c.new.result (o, n) ≡ None = search rules in
    let absent : (o d : ℕ) → entries_of c.new.result o d ≡ no_entry = λ o d. no_page c.new.result o d (none o (d / 64)) in
    record {
      cells = λ begins o d. ap (λ x. unwrap_or (cell_in x) (begins o)) (absent o d);
      stored = λ o d. ap (λ (x : Entry). x.stored) (absent o d);
      count = refl;
    }
