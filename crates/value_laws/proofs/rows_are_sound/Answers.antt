use Rattle.value_laws.proofs.Pointers.{number_result_stands, moved_pointer_stands, distance_stands}
use Rattle.value_laws.proofs.LowBits.{masked_low_part_stands, changed_low_bits_stands, low_part_at_top_stands, order_result_stands}
use Rattle.value_laws.proofs.Cells.{combined_cells_stands, low_result_stands}
use Rattle.value_laws.proofs.Shifts.{shifted_cells_stands}
use Rattle.value_laws.proofs.Lifted.{kept_operand_stands}
use Rattle.value_laws.proofs.rows_are_sound.Goals as goal

pub returns : goal.returns
returns c = record {
  two_numbers = λ l al op x y a b ha hb p q. number_result_stands l op x y a b p q;
  idle_number = λ l al op x y a b ha hb p q. kept_operand_stands l op x y a b ha hb p q;
  pointer_moved = λ l al op x y a b ha hb p q. moved_pointer_stands l op x y a b ha hb p q;
  pointer_distance = λ l al op x y a b ha hb p q. distance_stands l op x y a b ha hb p q;
  low_part_masked = λ l al aligns ok op x y a b ha hb p q. masked_low_part_stands l al aligns ok op x y a b p q;
  low_bits_changed = changed_low_bits_stands;
  low_part_shifted = low_part_at_top_stands;
  cell_by_cell = λ l al op x y a b ha hb p q. combined_cells_stands l op x y a b ha hb p q;
  cells_shifted = λ l al op x y a b ha hb p q. shifted_cells_stands l op x y a b ha hb p q;
  order_decided = order_result_stands;
  low_parts_alone = low_result_stands;
  everything_else = λ l x. (tt, tt, tt, tt);
}
