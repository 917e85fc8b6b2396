-- How instructions, their words and their ranges hang together.
use Rattle.std.specs.Prelude.{◌≡◌, ℕ, IfSome}
use Rattle.std.specs.declared.option.Option.TheVariants.{Some}
use Rattle.infinite_heap.specs.declared.instr.Instr.{Instr}
use Rattle.infinite_heap.specs.Row.{row}
use Rattle.infinite_heap.specs.InRange.{IsInRange}
use Rattle.rv_decode.specs.Word.{word_of}

-- the word of each instruction in range is that instruction
abbrev pub ReadsBack : Type 0
ReadsBack = (instr : Instr) → IsInRange instr → row (word_of instr) ≡ Some instr

-- whatever a word is, its fields are in range
abbrev pub RowsAreInRange : Type 0
RowsAreInRange = (word : ℕ) → IfSome (row word) IsInRange
