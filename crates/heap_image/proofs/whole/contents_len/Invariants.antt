use Rattle.std.proofs.Common.{◌≡◌, ◌*◌, ◌^◌, ◌≤◌, take}
use Rattle.heap_image.specs.Rules.{contents_len}
use Rattle.heap_image.proofs.whole.contents_len.Given as goal

abbrev pub invariant-loop-row : goal.invariant-loop-row
invariant-loop-row l = (l.sum ≡ contents_len l.places (take l.row-index l.rows)) × (l.sum ≤ l.row-index * 2 ^ 32)
