use Rattle.std.proofs.Common.{◌≡◌, ◌++◌, take}
use Rattle.std.specs.List.{flat_map}
use Rattle.heap_image.specs.Spelling.{broken_bytes}
use Rattle.heap_image.proofs.writing.put_breaks.Given as goal

abbrev pub invariant-loop-b : goal.invariant-loop-b
invariant-loop-b l = l.out.items ≡ l.initial.out.items ++ flat_map broken_bytes (take l.b-index l.broken)
