-- The text of a program's instructions: docs/program.md, "Show".
use Rattle.std.specs.Prelude.{ℕ, zero, suc, ◌+◌, ◌-◌, ◌*◌, ◌/◌, List, [], ◌∷◌, ◌++◌, slice_index, Option, None, Some, codes, if◌then◌else◌}
use Rattle.std.specs.List.{flat_map}
use Rattle.infinite_heap.specs.Row.{row}
use Rattle.infinite_heap.specs.Values.{word_of}
use Rattle.infinite_heap.specs.declared.instr.Instr.{Instr}
use Rattle.infinite_heap.specs.declared.program.Segment.{Segment}
use Rattle.hex_text.specs.Hex.{hex_of}
use Rattle.rv_decode.specs.Text.{text_of}

-- the byte at an address of a segment: past its own bytes it is zero
abbrev pub byte_in : Segment → ℕ → ℕ
byte_in segment address = slice_index segment.bytes (address - segment.from)

abbrev pub word_in : Segment → ℕ → ℕ
word_in segment address = word_of (byte_in segment address) (byte_in segment (address + 1)) (byte_in segment (address + 2)) (byte_in segment (address + 3))

abbrev pub instr_text : Option Instr → (pc : ℕ) → List ℕ
instr_text None pc = codes "word"
instr_text (Some instr) pc = text_of instr pc

-- the line of a word at an address
unfoldable pub word_line : (address word : ℕ) → List ℕ
word_line address word = hex_of 8 address ++ (codes ": " ++ (hex_of 8 word ++ (codes " " ++ (instr_text (row word) address ++ 10 ∷ []))))

-- the lines of so many words of a segment, from an address on
unfoldable pub lines_from : Segment → (address count : ℕ) → List ℕ
lines_from segment address zero = []
lines_from segment address (suc count) = word_line address (word_in segment address) ++ lines_from segment (address + 4) count

-- the first multiple of 4 from a segment's start on, and how many words lie between there and its end
abbrev pub first_word : Segment → ℕ
first_word segment = (segment.from + 3) / 4 * 4

abbrev pub word_count : Segment → ℕ
word_count segment = (segment.from + segment.len - first_word segment) / 4

-- the words of a segment that runs, each at a multiple of 4 with its four bytes in the segment
abbrev pub segment_lines : Segment → List ℕ
segment_lines segment = if segment.runs then lines_from segment (first_word segment) (word_count segment) else []

abbrev pub listing : List Segment → List ℕ
listing segments = flat_map segment_lines segments
