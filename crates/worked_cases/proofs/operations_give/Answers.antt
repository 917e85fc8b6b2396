use Rattle.std.proofs.Common.{refl}
use Rattle.infinite_heap.specs.Lift.{lift}
use Rattle.worked_cases.proofs.operations_give.Goals as goal

pub returns : goal.returns
unfolding lift
returns c = record {
  two_numbers = (refl, refl, refl, refl, refl, refl);
  idle_number = (refl, refl, refl, refl, refl, refl, refl, refl, refl, refl, refl, refl, refl, refl);
  pointer_moved = (refl, refl, refl, refl, refl, refl, refl);
  pointer_distance = (refl, refl, refl, refl);
  low_part_masked = (refl, refl, refl, refl, refl, refl, refl, refl, refl, refl, refl, refl, refl, refl, refl, refl, refl);
  low_bits_changed = (refl, refl, refl, refl, refl, refl, refl, refl, refl, refl, refl, refl, refl, refl, refl, refl, refl, refl, refl, refl, refl);
  low_part_shifted = (refl, refl, refl, refl, refl, refl, refl, refl);
  cell_by_cell = (refl, refl, refl, refl, refl, refl, refl, refl, refl, refl, refl, refl, refl);
  cells_shifted = (refl, refl, refl, refl, refl, refl, refl, refl, refl, refl, refl, refl, refl);
  order_decided = (refl, refl, refl, refl, refl, refl, refl, refl);
  low_parts_alone = (refl, refl, refl, refl, refl, refl, refl, refl, refl);
  everything_else = (refl, refl, refl, refl, refl, refl);
}
