-- The instruction that a word is, by the opcode tables of the RISC-V Unprivileged ISA manual for RV32I,
-- M and FENCE.I ("RV32/64G Instruction Set Listings"). A field is a quotient and a remainder of the word.
use Rattle.std.specs.Prelude.{ℕ, ◌+◌, ◌*◌, ◌/◌, ◌%◌, ◌^◌, ◌==◌, ◌||◌, nat_lt, ℤ, pos, ◌-ℤ◌, if◌then◌else◌}
use Rattle.std.specs.Option.{option_map}
use Rattle.std.specs.declared.option.Option.{Option}
use Rattle.std.specs.declared.option.Option.TheVariants.{Some, None}
use Rattle.infinite_heap.specs.declared.instr.Instr.{Instr}
use Rattle.infinite_heap.specs.declared.instr.Instr.TheVariants as instr
use Rattle.infinite_heap.specs.declared.instr.Op.{Op}
use Rattle.infinite_heap.specs.declared.instr.Op.TheVariants.{Beq, Bne, Blt, Bge, Bltu, Bgeu, Lb, Lh, Lw, Lbu, Lhu, Sb, Sh, Sw, Addi, Slti, Sltiu, Xori, Ori, Andi, Slli, Srli, Srai, Add, Sub, Sll, Slt, Sltu, Xor, Srl, Sra, Or, And, Mul, Mulh, Mulhsu, Mulhu, Div, Divu, Rem, Remu, Fence, FenceI, Ecall, Ebreak}

-- ---- fields

abbrev pub opcode : ℕ → ℕ
opcode word = word % 128

abbrev pub rd : ℕ → ℕ
rd word = word / 2 ^ 7 % 32

abbrev pub funct3 : ℕ → ℕ
funct3 word = word / 2 ^ 12 % 8

abbrev pub rs1 : ℕ → ℕ
rs1 word = word / 2 ^ 15 % 32

abbrev pub rs2 : ℕ → ℕ
rs2 word = word / 2 ^ 20 % 32

abbrev pub funct7 : ℕ → ℕ
funct7 word = word / 2 ^ 25 % 128

-- ---- immediates ("Immediate Encoding Variants")

-- the signed number of a field whose highest bit is worth `half`
abbrev pub signed_field : ℕ → ℕ → ℤ
signed_field half n = if nat_lt n half then pos n else pos n -ℤ pos (2 * half)

abbrev pub signed12 : ℕ → ℤ
signed12 n = signed_field 2048 n

abbrev pub signed13 : ℕ → ℤ
signed13 n = signed_field 4096 n

abbrev pub signed21 : ℕ → ℤ
signed21 n = signed_field 1048576 n

-- I: bits 11..0 of the immediate are bits 31..20 of the word
abbrev pub imm_i : ℕ → ℤ
imm_i word = signed12 (word / 2 ^ 20 % 4096)

-- S: 11..5 are 31..25, and 4..0 are 11..7
abbrev pub imm_s : ℕ → ℤ
imm_s word = signed12 (word / 2 ^ 25 % 128 * 32 + word / 2 ^ 7 % 32)

-- B: 12 is 31, 11 is 7, 10..5 are 30..25, 4..1 are 11..8, and 0 is zero
abbrev pub imm_b : ℕ → ℤ
imm_b word = signed13 (word / 2 ^ 31 % 2 * 4096 + word / 2 ^ 7 % 2 * 2048 + word / 2 ^ 25 % 64 * 32 + word / 2 ^ 8 % 16 * 2)

-- U: the twenty bits 31..12, which an instruction places at 31..12
abbrev pub top : ℕ → ℕ
top word = word / 2 ^ 12 % 1048576

-- J: 20 is 31, 19..12 are 19..12, 11 is 20, 10..1 are 30..21, and 0 is zero
abbrev pub imm_j : ℕ → ℤ
imm_j word = signed21 (word / 2 ^ 31 % 2 * 1048576 + word / 2 ^ 12 % 256 * 4096 + word / 2 ^ 20 % 2 * 2048 + word / 2 ^ 21 % 1024 * 2)

-- ---- names, by funct3 and funct7

abbrev pub branch_op : ℕ → Option Op
branch_op f3 =
    if f3 == 0 then Some Beq
    else if f3 == 1 then Some Bne
    else if f3 == 4 then Some Blt
    else if f3 == 5 then Some Bge
    else if f3 == 6 then Some Bltu
    else if f3 == 7 then Some Bgeu
    else None

abbrev pub load_op : ℕ → Option Op
load_op f3 =
    if f3 == 0 then Some Lb
    else if f3 == 1 then Some Lh
    else if f3 == 2 then Some Lw
    else if f3 == 4 then Some Lbu
    else if f3 == 5 then Some Lhu
    else None

abbrev pub store_op : ℕ → Option Op
store_op f3 =
    if f3 == 0 then Some Sb
    else if f3 == 1 then Some Sh
    else if f3 == 2 then Some Sw
    else None

-- an operation with an immediate of twelve bits
abbrev pub imm_op : ℕ → Option Op
imm_op f3 =
    if f3 == 0 then Some Addi
    else if f3 == 2 then Some Slti
    else if f3 == 3 then Some Sltiu
    else if f3 == 4 then Some Xori
    else if f3 == 6 then Some Ori
    else if f3 == 7 then Some Andi
    else None

-- a shift by an immediate
abbrev pub shift_op : ℕ → ℕ → Option Op
shift_op f3 f7 =
    if f3 == 1 then (if f7 == 0 then Some Slli else None)
    else if f3 == 5 then (if f7 == 0 then Some Srli else if f7 == 0x20 then Some Srai else None)
    else None

abbrev pub alu_op : ℕ → Option Op
alu_op f3 =
    if f3 == 0 then Some Add
    else if f3 == 1 then Some Sll
    else if f3 == 2 then Some Slt
    else if f3 == 3 then Some Sltu
    else if f3 == 4 then Some Xor
    else if f3 == 5 then Some Srl
    else if f3 == 6 then Some Or
    else if f3 == 7 then Some And
    else None

abbrev pub alternate_op : ℕ → Option Op
alternate_op f3 =
    if f3 == 0 then Some Sub
    else if f3 == 5 then Some Sra
    else None

abbrev pub multiply_op : ℕ → Option Op
multiply_op f3 =
    if f3 == 0 then Some Mul
    else if f3 == 1 then Some Mulh
    else if f3 == 2 then Some Mulhsu
    else if f3 == 3 then Some Mulhu
    else if f3 == 4 then Some Div
    else if f3 == 5 then Some Divu
    else if f3 == 6 then Some Rem
    else if f3 == 7 then Some Remu
    else None

abbrev pub register_op : ℕ → ℕ → Option Op
register_op f3 f7 =
    if f7 == 0 then alu_op f3
    else if f7 == 0x20 then alternate_op f3
    else if f7 == 1 then multiply_op f3
    else None

-- a fence, whatever its other bits are
abbrev pub fence_op : ℕ → Option Op
fence_op f3 =
    if f3 == 0 then Some Fence
    else if f3 == 1 then Some FenceI
    else None

-- these two are whole words
abbrev pub environment_op : ℕ → Option Op
environment_op word =
    if word == 0x00000073 then Some Ecall
    else if word == 0x00100073 then Some Ebreak
    else None

-- ---- rows

abbrev pub branch_row : ℕ → Option Instr
branch_row word = option_map (λ op. instr.Branch op (rs1 word) (rs2 word) (imm_b word)) (branch_op (funct3 word))

abbrev pub load_row : ℕ → Option Instr
load_row word = option_map (λ op. instr.Load op (rd word) (rs1 word) (imm_i word)) (load_op (funct3 word))

abbrev pub store_row : ℕ → Option Instr
store_row word = option_map (λ op. instr.Store op (rs1 word) (rs2 word) (imm_s word)) (store_op (funct3 word))

abbrev pub shift_row : ℕ → Option Instr
shift_row word = option_map (λ op. instr.AluImm op (rd word) (rs1 word) (pos (rs2 word))) (shift_op (funct3 word) (funct7 word))

abbrev pub imm_row : ℕ → Option Instr
imm_row word =
    if (funct3 word == 1) || (funct3 word == 5) then shift_row word
    else option_map (λ op. instr.AluImm op (rd word) (rs1 word) (imm_i word)) (imm_op (funct3 word))

abbrev pub register_row : ℕ → Option Instr
register_row word = option_map (λ op. instr.Alu op (rd word) (rs1 word) (rs2 word)) (register_op (funct3 word) (funct7 word))

abbrev pub jalr_row : ℕ → Option Instr
jalr_row word = if funct3 word == 0 then Some (instr.Jalr (rd word) (rs1 word) (imm_i word)) else None

-- the instruction that a word is; None where it is none
unfoldable pub row : ℕ → Option Instr
row word =
    if opcode word == 0x37 then Some (instr.Lui (rd word) (top word))
    else if opcode word == 0x17 then Some (instr.Auipc (rd word) (top word))
    else if opcode word == 0x6f then Some (instr.Jal (rd word) (imm_j word))
    else if opcode word == 0x67 then jalr_row word
    else if opcode word == 0x63 then branch_row word
    else if opcode word == 0x03 then load_row word
    else if opcode word == 0x23 then store_row word
    else if opcode word == 0x13 then imm_row word
    else if opcode word == 0x33 then register_row word
    else if opcode word == 0x0f then option_map (λ op. instr.System op) (fence_op (funct3 word))
    else if opcode word == 0x73 then option_map (λ op. instr.System op) (environment_op word)
    else None
