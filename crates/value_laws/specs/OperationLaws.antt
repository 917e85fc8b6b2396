-- What holds of operations on words and on values.
use Rattle.std.specs.Prelude.{ℕ, ◌<◌, ◌^◌, IfSome}
use Rattle.std.specs.declared.option.Option.{Option}
use Rattle.infinite_heap.specs.declared.instr.Operation.{Operation}
use Rattle.infinite_heap.specs.declared.value.Value.{Value}
use Rattle.infinite_heap.specs.Alu.{alu}
use Rattle.infinite_heap.specs.Values.{unknown}
use Rattle.infinite_heap.specs.Lift.{Alignments, lift}
use Rattle.infinite_heap.specs.Layout.{Layout, IsAligned, AreAlignments, Stands}

-- an operation on words gives a word
abbrev pub GivesWords : Type 0
GivesWords = (op : Operation) (x y : ℕ) → x < 2 ^ 32 → y < 2 ^ 32 → alu op x y < 2 ^ 32

-- the row's value, where the row fits, stands for the word
abbrev pub RowStands : Layout → Option Value → ℕ → Type 0
RowStands l row x = IfSome row (λ v. Stands l v x)

-- The row gives values that stand for the result on words, wherever aligned objects lie.
abbrev pub IsSoundRow : (Operation → Value → Value → Option Value) → Type 0
IsSoundRow row = (l : Layout) → IsAligned l → (op : Operation) (x y : Value) (a b : ℕ) → a < 2 ^ 32 → b < 2 ^ 32 → Stands l x a → Stands l y b → RowStands l (row op x y) (alu op a b)

-- The same of a row that goes by the objects' alignments.
abbrev pub IsSoundAlignedRow : (Alignments → Operation → Value → Value → Option Value) → Type 0
IsSoundAlignedRow row =
    (l : Layout) → IsAligned l → (aligns : Alignments) → AreAlignments l aligns → (op : Operation) (x y : Value) (a b : ℕ) → a < 2 ^ 32 → b < 2 ^ 32 → Stands l x a → Stands l y b
    → RowStands l (row aligns op x y) (alu op a b)

-- The operation on values stands for that on words, wherever aligned objects lie.
abbrev pub LiftIsSound : Type 0
LiftIsSound =
    (l : Layout) → IsAligned l → (aligns : Alignments) → AreAlignments l aligns → (op : Operation) (x y : Value) (a b : ℕ) → a < 2 ^ 32 → b < 2 ^ 32 → Stands l x a → Stands l y b
    → Stands l (lift aligns op x y) (alu op a b)

-- A value of which nothing is known stands for every word.
abbrev pub UnknownStands : Type 0
UnknownStands = (l : Layout) (x : ℕ) → Stands l unknown x
