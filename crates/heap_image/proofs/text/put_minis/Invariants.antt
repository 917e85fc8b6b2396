use Rattle.std.proofs.Common.{◌≡◌, ◌++◌, drop}
use Rattle.miniheap.specs.Layout.{minis}
use Rattle.heap_image.specs.Listing.{mini_lines}
use Rattle.heap_image.proofs.text.put_minis.Given as goal

abbrev pub invariant-loop-number : goal.invariant-loop-number
invariant-loop-number l = l.out.items ++ mini_lines l.number (drop l.number (minis l.places)) ≡ l.initial.out.items ++ mini_lines 0 (minis l.places)
