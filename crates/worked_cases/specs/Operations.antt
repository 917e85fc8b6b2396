-- What operations give on values, for each row of the table of operations and at the edges of its rule:
-- docs/infinite-heap.md, "Operations" and "Worked values".
use Rattle.std.specs.Prelude.{ℕ, ◌≡◌, ◌+◌, ◌-◌, ◌^◌, nat_eq, if◌then◌else◌}
use Rattle.infinite_heap.specs.declared.instr.Operation.{Operation}
use Rattle.infinite_heap.specs.declared.instr.Operation.TheVariants.{Add, Sub, Sll, Slt, Sltu, Xor, Srl, Sra, Or, And, Mul, Divu, Remu}
use Rattle.infinite_heap.specs.declared.value.Cell.{Cell}
use Rattle.infinite_heap.specs.declared.value.Cell.TheVariants.{Byte, Part, Unset}
use Rattle.infinite_heap.specs.declared.value.Value.{Value}
use Rattle.infinite_heap.specs.declared.value.Value.TheVariants.{Num, Ptr, Mix, Low}
use Rattle.infinite_heap.specs.Lift.{Alignments, lift}

-- object 5 is aligned to 64, object 6 to 4,096, and all others to 16
abbrev pub aligns : Alignments
aligns o = if nat_eq o 5 then 64 else if nat_eq o 6 then 4096 else 16

abbrev pub Gives : Operation → Value → Value → Value → Type 0
Gives op x y v = lift aligns op x y ≡ v

-- a pointer into the object of these cases, and the number of another one
abbrev pub at : ℕ → Value
at d = Ptr 3 d

abbrev pub other : ℕ → Value
other d = Ptr 4 d

-- pointers into objects with greater alignments
abbrev pub wide : ℕ → Value
wide d = Ptr 5 d

abbrev pub widest : ℕ → Value
widest d = Ptr 6 d

-- a pointer whose lowest byte isn't known
abbrev pub but_lowest : (o d : ℕ) → Value
but_lowest o d = Mix Unset (Part o d 1) (Part o d 2) (Part o d 3)

-- byte k of the pointer to offset 8
abbrev pub part : ℕ → Cell
part k = Part 3 8 k

abbrev pub nothing : Value
nothing = Mix Unset Unset Unset Unset

-- a word whose lowest cell is c, and of which nothing else is known
abbrev pub lowest : Cell → Value
lowest c = Mix c Unset Unset Unset

-- a word of which the second byte alone is known
abbrev pub second : Value
second = Mix Unset (Byte 7) Unset Unset

abbrev pub TwoNumbers : Type 0
TwoNumbers =
    Gives Add (Num (2 ^ 32 - 1)) (Num 1) (Num 0) × Gives Sra (Num 0x80000000) (Num 31) (Num 0xffffffff) × Gives Sltu (Num 0) (Num (2 ^ 32 - 1)) (Num 1)
    × Gives Slt (Num 0) (Num (2 ^ 32 - 1)) (Num 0) × Gives Divu (Num 7) (Num 0) (Num (2 ^ 32 - 1)) × Gives And (Num 29) (Num 15) (Num 13)

-- 0 on the left of sub isn't idle, nor a shift by 33. Of a word without a low part no other row would keep its cells.
abbrev pub IdleNumber : Type 0
IdleNumber =
    Gives Add (Low 5) (Num 0) (Low 5) × Gives Add second (Num 0) second × Gives Sub second (Num 0) second × Gives Sub (at 8) (Num 0) (at 8) × Gives Or second (Num 0) second
    × Gives Xor (Low 5) (Num 0) (Low 5) × Gives Add (Num 0) second second × Gives Or (Num 0) (Low 5) (Low 5) × Gives Xor (Num 0) (at 8) (at 8) × Gives Sll (Low 5) (Num 32) (Low 5)
    × Gives Srl (Low 5) (Num 0) (Low 5) × Gives Sra (Low 5) (Num 0x80000000) (Low 5) × Gives Sub (Num 0) (Low 5) (Low 11) × Gives Srl (Low 5) (Num 33) nothing

-- Offsets go on modulo 2^32. A pointer taken from a number isn't one.
abbrev pub PointerMoved : Type 0
PointerMoved =
    Gives Add (at 0xffffffff) (Num 1) (at 0) × Gives Add (Num 5) (at 4) (at 9) × Gives Sub (at 0) (Num 1) (at 0xffffffff) × Gives Sub (at 9) (Num 5) (at 4)
    × Gives Add (at 4) (Num 0xffffffff) (at 3) × Gives Sub (Num 5) (at 4) (Low 1) × Gives Add (at 4) (at 5) (Low 9)

-- Pointers to two objects have no distance.
abbrev pub Distance : Type 0
Distance = Gives Sub (at 4) (at 5) (Num 0xffffffff) × Gives Sub (at (2 ^ 21)) (at 0) (Num (2 ^ 21)) × Gives Sub (at 4) (at 4) (Num 0) × Gives Sub (at 4) (other 5) (Low 15)

-- 15 is below 16, and 16 isn't; 63 is below 64, and 64 isn't. A value whose lowest cell isn't known has no low part, and a
-- pointer's own cell has no more than four bits of one.
abbrev pub MaskedLowPart : Type 0
MaskedLowPart =
    Gives And (at 29) (Num 15) (Num 13) × Gives And (Num 15) (at 29) (Num 13) × Gives And (Low 9) (Num 1) (Num 1) × Gives And (Num 0) (Low 9) (Num 0)
    × Gives And (lowest (Byte 0xfa)) (Num 15) (Num 10) × Gives And (lowest (part 0)) (Num 12) (Num 8) × Gives And (at 29) (Num 16) (Mix Unset (Byte 0) (Byte 0) (Byte 0))
    × Gives And (Low 9) (Num 16) (Low 0) × Gives And nothing (Num 15) (Mix Unset (Byte 0) (Byte 0) (Byte 0)) × Gives And (lowest (part 1)) (Num 15) (Mix Unset (Byte 0) (Byte 0) (Byte 0))
    × Gives And (wide 100) (Num 63) (Num 36) × Gives And (Num 63) (wide 100) (Num 36) × Gives And (wide 100) (Num 15) (Num 4)
    × Gives And (wide 100) (Num 64) (Mix Unset (Byte 0) (Byte 0) (Byte 0)) × Gives And (lowest (Part 5 100 0)) (Num 16) (Mix Unset (Byte 0) (Byte 0) (Byte 0))
    × Gives And (widest 5000) (Num 4095) (Num 904) × Gives And (widest 5000) (Num 4096) (Mix (Byte 0) Unset (Byte 0) (Byte 0))

-- 2^32 - 16 clears all four, and 2^32 - 17 is no mask of them alone; or, xor with 15 are of them alone, and with 16 not. The
-- same of 2^32 - 64, 2^32 - 65, 63 and 64, where the object is aligned so.
abbrev pub LowBitsChanged : Type 0
LowBitsChanged =
    Gives And (at 29) (Num (2 ^ 32 - 16)) (at 16) × Gives And (Num (2 ^ 32 - 2)) (at 29) (at 28) × Gives And (at 0xffffffff) (Num (2 ^ 32 - 1)) (at 0xffffffff)
    × Gives Or (at 16) (Num 15) (at 31) × Gives Or (Num 1) (at 8) (at 9) × Gives Xor (at 31) (Num 15) (at 16) × Gives Xor (Num 2) (at 8) (at 10)
    × Gives And (at 8) (Num (2 ^ 32 - 17)) (but_lowest 3 8) × Gives Or (at 8) (Num 16) (but_lowest 3 8) × Gives Xor (at 8) (Num 16) (but_lowest 3 8)
    × Gives And (wide 100) (Num (2 ^ 32 - 64)) (wide 64) × Gives And (Num (2 ^ 32 - 64)) (wide 100) (wide 64) × Gives And (wide 100) (Num (2 ^ 32 - 65)) (but_lowest 5 100)
    × Gives And (at 100) (Num (2 ^ 32 - 64)) (but_lowest 3 100) × Gives Or (wide 64) (Num 63) (wide 127) × Gives Or (wide 64) (Num 64) (but_lowest 5 64)
    × Gives Or (at 64) (Num 63) (but_lowest 3 64) × Gives Xor (Num 63) (wide 127) (wide 64) × Gives Xor (wide 127) (Num 64) (but_lowest 5 127)
    × Gives And (widest 5000) (Num (2 ^ 32 - 4096)) (widest 4096) × Gives Or (widest 4096) (Num 4095) (widest 8191)

-- From 28 on nothing but the low four bits is left.
abbrev pub LowPartAtTop : Type 0
LowPartAtTop =
    Gives Sll (at 29) (Num 28) (Num 0xd0000000) × Gives Sll (Low 9) (Num 31) (Num 0x80000000) × Gives Sll (Low 3) (Num 60) (Num 0x30000000)
    × Gives Sll (lowest (Byte 0xff)) (Num 28) (Num 0xf0000000) × Gives Sll (lowest (part 0)) (Num 28) (Num 0x80000000) × Gives Sll (at 29) (Num 27) nothing
    × Gives Sll (Low 9) (Num 27) nothing × Gives Sll (lowest (part 1)) (Num 28) nothing

-- The bytes of the right operands are 255, 0, 60 and 7, and 0, 255, 60 and 7, lowest first. A low part alone is no
-- operand, nor are two pointers, and what comes out has to tell something.
abbrev pub CellByCell : Type 0
CellByCell =
    Gives And (Mix (part 0) Unset (Byte 15) Unset) (Num 0x073c00ff) (Mix (part 0) (Byte 0) (Byte 12) Unset)
    × Gives Or (Mix (part 0) Unset (Byte 15) Unset) (Num 0x073cff00) (Mix (part 0) (Byte 255) (Byte 63) Unset)
    × Gives Xor (Mix (part 0) Unset (Byte 15) Unset) (Num 0x073cff00) (Mix (part 0) Unset (Byte 51) Unset)
    × Gives And (Num 0xffff0000) (at 8) (Mix (Byte 0) (Byte 0) (part 2) (part 3)) × Gives Or (at 8) (Num 0xff000000) (Mix (part 0) (part 1) (part 2) (Byte 255))
    × Gives Xor (Num 0xff00) (at 8) (Mix (part 0) Unset (part 2) (part 3)) × Gives Or (Mix (part 0) (part 1) (Byte 0) (Byte 0)) (Mix (Byte 0) (Byte 0) (part 2) (part 3)) (at 8)
    × Gives And nothing (Num 0xffff0000) (Mix (Byte 0) (Byte 0) Unset Unset) × Gives And (Num 0xffff0000) nothing (Mix (Byte 0) (Byte 0) Unset Unset) × Gives And (lowest (Byte 5)) (lowest (Part 3 12 0)) (Low 4) × Gives And (Low 3) (Mix (Byte 6) (Byte 0) (Byte 0) Unset) (Low 2) × Gives And (Mix (Byte 6) (Byte 0) (Byte 0) Unset) (Low 3) (Low 2)
    × Gives Xor (at 8) (other 3) (Low 11)

-- By 1, 2 and 3 cells, each way; the amount counts modulo 32. By 12 bits no whole cells move, and a low part has none.
abbrev pub CellsShifted : Type 0
CellsShifted =
    Gives Sll (at 8) (Num 8) (Mix (Byte 0) (part 0) (part 1) (part 2)) × Gives Sll (at 8) (Num 48) (Mix (Byte 0) (Byte 0) (part 0) (part 1))
    × Gives Sll (at 8) (Num 24) (Mix (Byte 0) (Byte 0) (Byte 0) (part 0)) × Gives Srl (at 8) (Num 8) (Mix (part 1) (part 2) (part 3) (Byte 0))
    × Gives Srl (at 8) (Num 16) (Mix (part 2) (part 3) (Byte 0) (Byte 0)) × Gives Srl (at 8) (Num 56) (Mix (part 3) (Byte 0) (Byte 0) (Byte 0))
    × Gives Sra (at 8) (Num 8) (Mix (part 1) (part 2) (part 3) Unset) × Gives Sra (at 8) (Num 24) (Mix (part 3) Unset Unset Unset)
    × Gives Sra (Mix Unset Unset Unset (Byte 128)) (Num 24) (Num 0xffffff80) × Gives Sra (Mix Unset Unset (part 0) (Byte 127)) (Num 16) (Mix (part 0) (Byte 127) (Byte 0) (Byte 0))
    × Gives Srl (at 8) (Num 12) nothing × Gives Sra (at 8) (Num 4) nothing × Gives Srl (Low 8) (Num 8) nothing

abbrev pub OrderDecided : Type 0
OrderDecided =
    Gives Sltu (at 15) (at 16) (Num 1) × Gives Slt (at (2 ^ 21)) (at 0) (Num 0) × Gives Sltu (Num (2 ^ 30 - 1)) (at (2 ^ 21)) (Num 1) × Gives Sltu (at 0) (Num 0x80000000) (Num 1)
    × Gives Slt (at 0) (Num 0x80000000) (Num 0) × Gives Slt (at (2 ^ 21 + 1)) (at 0) nothing × Gives Sltu (at 8) (other 8) nothing × Gives Sltu (at 8) (Num (2 ^ 30)) nothing

abbrev pub LowPartsAlone : Type 0
LowPartsAlone =
    Gives Add (at 8) (other 9) (Low 1) × Gives Sub (Low 3) (Num 5) (Low 14) × Gives And (Low 12) (at 10) (Low 8) × Gives Or (Low 12) (Num 3) (Low 15) × Gives Xor (Low 12) (Low 10) (Low 6)
    × Gives Add (lowest (Byte 255)) (Num 1) (Low 0) × Gives Sub (lowest (part 0)) (Low 9) (Low 15) × Gives Add (Low 3) nothing nothing × Gives Add (lowest (part 1)) (Low 1) nothing

abbrev pub EverythingElse : Type 0
EverythingElse =
    Gives Mul (at 4) (Num 2) nothing × Gives Mul (Low 3) (Num 0) nothing × Gives Remu (at 4) (Num 16) nothing × Gives Sll (Num 1) (at 1) nothing × Gives Slt (Low 3) (Num 3) nothing
    × Gives Sub nothing (at 4) nothing
