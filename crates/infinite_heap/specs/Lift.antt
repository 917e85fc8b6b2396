-- What an operation gives on values: docs/infinite-heap.md, "Operations". Each row of the table there is one
-- definition here, under the same words; the first row that fits counts.
use Rattle.std.specs.Prelude.{ℕ, ◌-◌, ◌*◌, ◌/◌, ◌%◌, ◌^◌, ◌&&◌, Bool, true, false, nat_eq, nat_lt, nat_le, if◌then◌else◌, bit_and, bit_or, bit_xor}
use Rattle.std.specs.Bool.{then_some}
use Rattle.std.specs.Option.{option_map}
use Rattle.std.specs.declared.option.Option.{Option}
use Rattle.std.specs.declared.option.Option.TheVariants.{Some, None}
use Rattle.infinite_heap.specs.declared.instr.Operation.{Operation}
use Rattle.infinite_heap.specs.declared.instr.Operation.TheVariants.{Add, Sub, Sll, Slt, Sltu, Xor, Srl, Sra, Or, And}
use Rattle.infinite_heap.specs.declared.value.Cell.{Cell}
use Rattle.infinite_heap.specs.declared.value.Cell.TheVariants.{Byte, Unset}
use Rattle.infinite_heap.specs.declared.value.Value.{Value}
use Rattle.infinite_heap.specs.declared.value.Value.TheVariants.{Num, Ptr, Mix, Low}
use Rattle.infinite_heap.specs.Alu.{alu, one_if}
use Rattle.infinite_heap.specs.Values.{Cells, cells_of, value_of, unknown, low_part, sign_cell}
use Rattle.infinite_heap.specs.Order.{below, below_signed}

-- the first of two rows that fits
abbrev pub or_else : Option Value → Option Value → Option Value
or_else (Some v) next = Some v
or_else None next = next

-- "Two numbers": any operation on two numbers gives the number.
abbrev pub number_result : Operation → Value → Value → Option Value
number_result op (Num x) (Num y) = Some (Num (alu op x y))
number_result op x y = None

-- the operation with n on the right gives its left operand
abbrev pub is_idle_right : Operation → ℕ → Bool
is_idle_right Add n = nat_eq n 0
is_idle_right Sub n = nat_eq n 0
is_idle_right Or n = nat_eq n 0
is_idle_right Xor n = nat_eq n 0
is_idle_right Sll n = nat_eq (n % 32) 0
is_idle_right Srl n = nat_eq (n % 32) 0
is_idle_right Sra n = nat_eq (n % 32) 0
is_idle_right op n = false

-- the operation with n on the left gives its right operand
abbrev pub is_idle_left : Operation → ℕ → Bool
is_idle_left Add n = nat_eq n 0
is_idle_left Or n = nat_eq n 0
is_idle_left Xor n = nat_eq n 0
is_idle_left op n = false

abbrev pub kept_left : Operation → Value → Value → Option Value
kept_left op x (Num n) = then_some (is_idle_right op n) x
kept_left op x y = None

abbrev pub kept_right : Operation → Value → Value → Option Value
kept_right op (Num n) y = then_some (is_idle_left op n) y
kept_right op x y = None

-- "An idle number": add, sub, or, xor with 0 on the right, add, or, xor with 0 on the left, and a shift by a
-- multiple of 32 give the other value.
abbrev pub kept_operand : Operation → Value → Value → Option Value
kept_operand op x y = or_else (kept_left op x y) (kept_right op x y)

-- "A pointer moved": Ptr(o, d) + n in either order is Ptr(o, d + n), and Ptr(o, d) - n is Ptr(o, d - n).
abbrev pub moved_pointer : Operation → Value → Value → Option Value
moved_pointer Add (Ptr o d) (Num n) = Some (Ptr o (alu Add d n))
moved_pointer Add (Num n) (Ptr o d) = Some (Ptr o (alu Add d n))
moved_pointer Sub (Ptr o d) (Num n) = Some (Ptr o (alu Sub d n))
moved_pointer op x y = None

-- "A distance": Ptr(o, d) - Ptr(o, e) is the number d - e.
abbrev pub distance : Operation → Value → Value → Option Value
distance Sub (Ptr o d) (Ptr p e) = then_some (nat_eq o p) (Num (alu Sub d e))
distance op x y = None

-- the alignment of each object
abbrev pub Alignments : Type 0
Alignments = ℕ → ℕ

-- the low four bits of a value, by a mask of no others
abbrev pub masked_value : Value → Value → Option Value
masked_value (Num n) y = if nat_lt n 16 then option_map (λ b. Num (bit_and b n)) (low_part y) else None
masked_value x y = None

-- the bits of a pointer below its object's alignment, by a mask of no others
abbrev pub masked_pointer : Alignments → Value → Value → Option Value
masked_pointer aligns (Num n) (Ptr o d) = then_some (nat_lt n (aligns o)) (Num (bit_and d n))
masked_pointer aligns x y = None

abbrev pub masked_by : Alignments → Value → Value → Option Value
masked_by aligns x y = or_else (masked_value x y) (masked_pointer aligns x y)

-- "A masked low part": and of a number n below 16 with a value of low part b is the number b and n, and that of n below
-- o's alignment with Ptr(o, d) is the number d and n.
abbrev pub masked_low_part : Alignments → Operation → Value → Value → Option Value
masked_low_part aligns And x y = or_else (masked_by aligns x y) (masked_by aligns y x)
masked_low_part aligns op x y = None

-- the operation on a pointer and a number that leaves all bits from the object's alignment on
abbrev pub changed_by : Alignments → Operation → (o d n : ℕ) → Option Value
changed_by aligns And o d n = then_some (nat_le (2 ^ 32 - aligns o) n) (Ptr o (bit_and d n))
changed_by aligns Or o d n = then_some (nat_lt n (aligns o)) (Ptr o (bit_or d n))
changed_by aligns Xor o d n = then_some (nat_lt n (aligns o)) (Ptr o (bit_xor d n))
changed_by aligns op o d n = None

-- "A pointer's low bits": where a is o's alignment, and of Ptr(o, d) with n from 2^32 - a on, and or, xor of it with n
-- below a, is Ptr(o, d op n).
abbrev pub changed_low_bits : Alignments → Operation → Value → Value → Option Value
changed_low_bits aligns op (Ptr o d) (Num n) = changed_by aligns op o d n
changed_low_bits aligns op (Num n) (Ptr o d) = changed_by aligns op o d n
changed_low_bits aligns op x y = None

-- "A low part at the top": sll of a value of low part b by a number that is t modulo 32, t at least 28, is the
-- number b * 2^t.
abbrev pub low_part_at_top : Operation → Value → Value → Option Value
low_part_at_top Sll x (Num s) = if nat_le 28 (s % 32) then option_map (λ b. Num ((b * 2 ^ (s % 32)) % 2 ^ 32)) (low_part x) else None
low_part_at_top op x y = None

-- a number and a cell that is no number
abbrev pub cell_and_number : ℕ → Cell → Cell
cell_and_number n c = if nat_eq n 0 then Byte 0 else if nat_eq n 255 then c else Unset

abbrev pub cell_or_number : ℕ → Cell → Cell
cell_or_number n c = if nat_eq n 0 then c else if nat_eq n 255 then Byte 255 else Unset

abbrev pub cell_xor_number : ℕ → Cell → Cell
cell_xor_number n c = if nat_eq n 0 then c else Unset

-- an operation on two cells, from that on two numbers and that on a number and a cell
abbrev pub cell_by : (ℕ → ℕ → ℕ) → (ℕ → Cell → Cell) → Cell → Cell → Cell
cell_by f g (Byte m) (Byte n) = Byte (f m n)
cell_by f g (Byte m) c = g m c
cell_by f g c (Byte n) = g n c
cell_by f g c d = Unset

abbrev pub cell_operation : Operation → Option (Cell → Cell → Cell)
cell_operation And = Some (cell_by bit_and cell_and_number)
cell_operation Or = Some (cell_by bit_or cell_or_number)
cell_operation Xor = Some (cell_by bit_xor cell_xor_number)
cell_operation op = None

-- neither value is a Low, and one is a Mix, or one a pointer and one a number
abbrev pub goes_by_cells : Value → Value → Bool
goes_by_cells (Low b) y = false
goes_by_cells x (Low b) = false
goes_by_cells (Mix a b c d) y = true
goes_by_cells x (Mix a b c d) = true
goes_by_cells (Ptr o d) (Num n) = true
goes_by_cells (Num n) (Ptr o d) = true
goes_by_cells x y = false

abbrev pub value_by : (Cell → Cell → Cell) → Cells → Cells → Value
value_by f x y = value_of (f x.c0 y.c0) (f x.c1 y.c1) (f x.c2 y.c2) (f x.c3 y.c3)

-- the value, unless nothing is known of it
abbrev pub if_known : Value → Option Value
if_known (Mix Unset Unset Unset Unset) = None
if_known v = Some v

abbrev pub combined_by : Option (Cell → Cell → Cell) → Value → Value → Option Value
combined_by (Some f) x y = if goes_by_cells x y then if_known (value_by f (cells_of x) (cells_of y)) else None
combined_by None x y = None

-- "Cell by cell": and, or, xor of two values, none a Low, one a Mix, or of a pointer and a number, go cell by
-- cell, unless the result is unknown.
abbrev pub combined_cells : Operation → Value → Value → Option Value
combined_cells op x y = combined_by (cell_operation op) x y

abbrev pub up_cells : ℕ → Cells → Value
up_cells k x =
    if nat_eq k 0 then value_of x.c0 x.c1 x.c2 x.c3
    else if nat_eq k 1 then value_of (Byte 0) x.c0 x.c1 x.c2
    else if nat_eq k 2 then value_of (Byte 0) (Byte 0) x.c0 x.c1
    else value_of (Byte 0) (Byte 0) (Byte 0) x.c0

abbrev pub down_cells : Cell → ℕ → Cells → Value
down_cells s k x =
    if nat_eq k 0 then value_of x.c0 x.c1 x.c2 x.c3
    else if nat_eq k 1 then value_of x.c1 x.c2 x.c3 s
    else if nat_eq k 2 then value_of x.c2 x.c3 s s
    else value_of x.c3 s s s

-- cells shifted by k whole cells
abbrev pub shifted_by : Operation → ℕ → Cells → Option Value
shifted_by Sll k x = Some (up_cells k x)
shifted_by Srl k x = Some (down_cells (Byte 0) k x)
shifted_by Sra k x = Some (down_cells (sign_cell x.c3) k x)
shifted_by op k x = None

abbrev pub is_pointer_or_mix : Value → Bool
is_pointer_or_mix (Ptr o d) = true
is_pointer_or_mix (Mix a b c d) = true
is_pointer_or_mix v = false

-- "Whole cells shifted": a shift of a pointer or a Mix by a number that is a multiple of 8 modulo 32 moves its
-- cells. Zeros come in; in sra the sign of the top cell, where it is a number, else unset cells.
abbrev pub shifted_cells : Operation → Value → Value → Option Value
shifted_cells op x (Num s) = if nat_eq (s % 32 % 8) 0 && is_pointer_or_mix x then shifted_by op (s % 32 / 8) (cells_of x) else None
shifted_cells op x y = None

-- "A decided order": slt and sltu are 1 or 0 where the order of the two values is decided.
abbrev pub order_result : Operation → Value → Value → Option Value
order_result Slt x y = option_map (λ b. Num (one_if b)) (below_signed x y)
order_result Sltu x y = option_map (λ b. Num (one_if b)) (below x y)
order_result op x y = None

abbrev pub low_parts_by : Operation → Option ℕ → Option ℕ → Option Value
low_parts_by op (Some b) (Some c) = Some (Low (alu op b c % 16))
low_parts_by op b c = None

-- "Low parts alone": add, sub, and, or, xor of two values whose low parts are known is a Low, of the operation
-- on these modulo 16.
abbrev pub low_result : Operation → Value → Value → Option Value
low_result Add x y = low_parts_by Add (low_part x) (low_part y)
low_result Sub x y = low_parts_by Sub (low_part x) (low_part y)
low_result And x y = low_parts_by And (low_part x) (low_part y)
low_result Or x y = low_parts_by Or (low_part x) (low_part y)
low_result Xor x y = low_parts_by Xor (low_part x) (low_part y)
low_result op x y = None

-- "Everything else" is unknown.
abbrev pub or_unknown : Option Value → Value
or_unknown (Some v) = v
or_unknown None = unknown

-- the operation on two values, where the objects have these alignments
unfoldable pub lift : Alignments → Operation → Value → Value → Value
lift aligns op x y =
    or_unknown (or_else (number_result op x y) (or_else (kept_operand op x y)
    (or_else (moved_pointer op x y) (or_else (distance op x y)
    (or_else (masked_low_part aligns op x y) (or_else (changed_low_bits aligns op x y)
    (or_else (low_part_at_top op x y) (or_else (combined_cells op x y)
    (or_else (shifted_cells op x y) (or_else (order_result op x y) (low_result op x y)))))))))))
