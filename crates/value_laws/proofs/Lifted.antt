-- Each row, and the first of them that fits.
use Rattle.std.proofs.Common.{ℕ, ◌^◌, ◌<◌}
use Rattle.std.specs.declared.option.Option.{Option}
use Rattle.std.specs.declared.option.Option.TheVariants.{Some, None}
use Rattle.infinite_heap.specs.declared.instr.Operation.{Operation}
use Rattle.infinite_heap.specs.declared.value.Value.{Value}
use Rattle.infinite_heap.specs.Alu.{alu}
use Rattle.infinite_heap.specs.Layout.{Layout, IsAligned, AreAlignments, Stands}
use Rattle.infinite_heap.specs.Lift.{Alignments, or_unknown, kept_left, kept_right, kept_operand, lift}
use Rattle.value_laws.specs.OperationLaws.{RowStands}
use Rattle.value_laws.proofs.Pointers.{number_result_stands, kept_left_stands, kept_right_stands, moved_pointer_stands, distance_stands}
use Rattle.value_laws.proofs.LowBits.{or_else_stands, masked_low_part_stands, changed_low_bits_stands, low_part_at_top_stands, order_result_stands}
use Rattle.value_laws.proofs.Cells.{combined_cells_stands, low_result_stands}
use Rattle.value_laws.proofs.Shifts.{shifted_cells_stands}

pub kept_operand_stands : (l : Layout) (op : Operation) (x y : Value) (a b : ℕ) → a < 2 ^ 32 → b < 2 ^ 32 → Stands l x a → Stands l y b → RowStands l (kept_operand op x y) (alu op a b)
kept_operand_stands l op x y a b ha hb p q = or_else_stands l (kept_left op x y) (kept_right op x y) (alu op a b) (kept_left_stands l op x y a b ha p q) (kept_right_stands l op x y a b hb p q)

or_unknown_stands : (l : Layout) (o : Option Value) (x : ℕ) → RowStands l o x → Stands l (or_unknown o) x
or_unknown_stands l (Some v) x p = p
or_unknown_stands l None x p = (tt, tt, tt, tt)

pub lift_stands : (l : Layout) → IsAligned l → (aligns : Alignments) → AreAlignments l aligns → (op : Operation) (x y : Value) (a b : ℕ) → a < 2 ^ 32 → b < 2 ^ 32 → Stands l x a → Stands l y b → Stands l (lift aligns op x y) (alu op a b)
unfolding lift
lift_stands l al aligns ok op x y a b ha hb p q =
    or_unknown_stands l _ (alu op a b)
    (or_else_stands l _ _ _ (number_result_stands l op x y a b p q) (or_else_stands l _ _ _ (kept_operand_stands l op x y a b ha hb p q)
    (or_else_stands l _ _ _ (moved_pointer_stands l op x y a b ha hb p q) (or_else_stands l _ _ _ (distance_stands l op x y a b ha hb p q)
    (or_else_stands l _ _ _ (masked_low_part_stands l al aligns ok op x y a b p q) (or_else_stands l _ _ _ (changed_low_bits_stands l al aligns ok op x y a b ha hb p q)
    (or_else_stands l _ _ _ (low_part_at_top_stands l al op x y a b ha hb p q) (or_else_stands l _ _ _ (combined_cells_stands l op x y a b ha hb p q)
    (or_else_stands l _ _ _ (shifted_cells_stands l op x y a b ha hb p q) (or_else_stands l _ _ _ (order_result_stands l al op x y a b ha hb p q)
    (low_result_stands l al op x y a b ha hb p q)))))))))))
