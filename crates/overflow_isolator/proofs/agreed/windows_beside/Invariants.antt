use Rattle.std.proofs.Common.{take}
use Rattle.std.specs.List.{AllZip}
use Rattle.heap_image.specs.Agreement.{AgreeOn, allocation_of}
use Rattle.overflow_isolator.specs.Windows.{IsWindowOf}
use Rattle.overflow_isolator.proofs.agreed.windows_beside.Given as goal

abbrev pub invariant-loop-image : goal.invariant-loop-image
invariant-loop-image l = record {
  agreed : AgreeOn (take l.image-index l.images) l.object (allocation_of l.row);
  zipped : AllZip (IsWindowOf l.object l.gap) (take l.image-index l.images) l.windows.items;
}
