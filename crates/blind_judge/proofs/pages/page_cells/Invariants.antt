use Rattle.std.proofs.Common.{◌≡◌, ◌<◌, ℕ, length}
use Rattle.std.specs.Prelude.{slice_index_or}
use Rattle.std.specs.Option.{unwrap_or}
use Rattle.blind_judge.specs.Entries.{cell_in}
use Rattle.blind_judge.specs.Pages.{entry_in}
use Rattle.blind_judge.proofs.pages.page_cells.Given as goal

abbrev pub invariant-loop-i : goal.invariant-loop-i
invariant-loop-i l = record { size : length l.cells ≡ 64; cells : (at : ℕ) → at < l.i → slice_index_or l.cells at l.begins ≡ unwrap_or (cell_in (entry_in l.page at)) l.begins }
