use Rattle.std.proofs.Common.{◌≡◌, ◌++◌, take}
use Rattle.std.specs.List.{flat_map}
use Rattle.dangling_isolator.specs.Marks.{break_marks}
use Rattle.dangling_isolator.proofs.finding.put_slot_marks.Given as goal

abbrev pub invariant-loop-b : goal.invariant-loop-b
invariant-loop-b l = l.marks.items ≡ l.initial.marks.items ++ flat_map (break_marks l.len l.row) (take l.b-index l.breaks)
