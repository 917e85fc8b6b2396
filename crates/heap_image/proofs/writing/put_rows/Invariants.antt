use Rattle.std.proofs.Common.{◌≡◌, ◌++◌, take}
use Rattle.std.specs.List.{flat_map}
use Rattle.heap_image.specs.Spelling.{row_bytes}
use Rattle.heap_image.specs.declared.version.Version.TheVariants.{Two}
use Rattle.heap_image.proofs.writing.put_rows.Given as goal

abbrev pub invariant-loop-row : goal.invariant-loop-row
invariant-loop-row l = l.out.items ≡ l.initial.out.items ++ flat_map (row_bytes Two) (take l.row-index l.rows)
