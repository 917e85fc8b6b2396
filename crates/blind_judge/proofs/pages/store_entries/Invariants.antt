use Rattle.std.proofs.Common.{◌≡◌, ◌+◌, ◌≤◌, drop}
use Rattle.blind_judge.specs.Pages.{marks_of, page_with, newly_stored}
use Rattle.blind_judge.proofs.pages.store_entries.Given as goal

-- all is what was done so far, and then what the rest of the cells does
abbrev pub invariant-loop-i : goal.invariant-loop-i
invariant-loop-i l = record {
  stored : page_with (marks_of l.marks) l.page (l.at + l.i) (drop l.i l.cells) ≡ page_with (marks_of l.fn.marks) l.fn.page l.fn.at l.fn.cells;
  count : l.fresh + newly_stored (marks_of l.marks) l.page (l.at + l.i) (drop l.i l.cells) ≡ newly_stored (marks_of l.fn.marks) l.fn.page l.fn.at l.fn.cells;
  few : l.fresh ≤ l.i;
}
