use Rattle.std.proofs.Common.{◌≡◌, take}
use Rattle.std.specs.List.{flat_map}
use Rattle.dangling_isolator.specs.Marks.{row_marks}
use Rattle.dangling_isolator.proofs.finding.marks_of.Given as goal

abbrev pub invariant-loop-row : goal.invariant-loop-row
invariant-loop-row l = l.marks.items ≡ flat_map (row_marks l.image.miniheaps l.image.broken) (take l.row-index l.image.rows)
