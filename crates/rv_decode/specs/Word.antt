-- The word of an instruction, by the forms R, I, S, B, U and J of the RISC-V Unprivileged ISA manual
-- ("Base Instruction Formats", "Immediate Encoding Variants", "RV32/64G Instruction Set Listings").
use Rattle.std.specs.Prelude.{ℕ, ◌+◌, ◌-◌, ◌*◌, ◌/◌, ◌%◌, ◌^◌, Bool, true, false, ℤ, if◌then◌else◌}
use Rattle.infinite_heap.specs.declared.instr.Instr.{Instr}
use Rattle.infinite_heap.specs.declared.instr.Instr.TheVariants.{Alu, AluImm, Lui, Auipc, Jal, Jalr, Branch, Load, Store, System}
use Rattle.infinite_heap.specs.declared.instr.Op.{Op}
use Rattle.infinite_heap.specs.declared.instr.Op.TheVariants as op
use Rattle.infinite_heap.specs.Alu.{word}

-- ---- forms

-- bits high to low of an immediate, in two's complement
abbrev pub bits : ℤ → ℕ → ℕ → ℕ
bits imm high low = word imm / 2 ^ low % 2 ^ (high - low + 1)

abbrev pub r_form : ℕ → ℕ → ℕ → ℕ → ℕ → ℕ → ℕ
r_form funct7 rs2 rs1 funct3 rd opcode = funct7 * 2 ^ 25 + rs2 * 2 ^ 20 + rs1 * 2 ^ 15 + funct3 * 2 ^ 12 + rd * 2 ^ 7 + opcode

abbrev pub i_form : ℤ → ℕ → ℕ → ℕ → ℕ → ℕ
i_form imm rs1 funct3 rd opcode = bits imm 11 0 * 2 ^ 20 + rs1 * 2 ^ 15 + funct3 * 2 ^ 12 + rd * 2 ^ 7 + opcode

abbrev pub s_form : ℤ → ℕ → ℕ → ℕ → ℕ → ℕ
s_form imm rs2 rs1 funct3 opcode = bits imm 11 5 * 2 ^ 25 + rs2 * 2 ^ 20 + rs1 * 2 ^ 15 + funct3 * 2 ^ 12 + bits imm 4 0 * 2 ^ 7 + opcode

abbrev pub b_form : ℤ → ℕ → ℕ → ℕ → ℕ → ℕ
b_form imm rs2 rs1 funct3 opcode = bits imm 12 12 * 2 ^ 31 + bits imm 10 5 * 2 ^ 25 + rs2 * 2 ^ 20 + rs1 * 2 ^ 15 + funct3 * 2 ^ 12 + bits imm 4 1 * 2 ^ 8 + bits imm 11 11 * 2 ^ 7 + opcode

abbrev pub u_form : ℕ → ℕ → ℕ → ℕ
u_form top rd opcode = top * 2 ^ 12 + rd * 2 ^ 7 + opcode

abbrev pub j_form : ℤ → ℕ → ℕ → ℕ
j_form imm rd opcode = bits imm 20 20 * 2 ^ 31 + bits imm 10 1 * 2 ^ 21 + bits imm 11 11 * 2 ^ 20 + bits imm 19 12 * 2 ^ 12 + rd * 2 ^ 7 + opcode

-- ---- the constant fields of a name

-- 0 for a name that has none
abbrev pub funct3_of : Op → ℕ
funct3_of op.Bne = 1
funct3_of op.Blt = 4
funct3_of op.Bge = 5
funct3_of op.Bltu = 6
funct3_of op.Bgeu = 7
funct3_of op.Lh = 1
funct3_of op.Lw = 2
funct3_of op.Lbu = 4
funct3_of op.Lhu = 5
funct3_of op.Sh = 1
funct3_of op.Sw = 2
funct3_of op.Slti = 2
funct3_of op.Sltiu = 3
funct3_of op.Xori = 4
funct3_of op.Ori = 6
funct3_of op.Andi = 7
funct3_of op.Slli = 1
funct3_of op.Srli = 5
funct3_of op.Srai = 5
funct3_of op.Sll = 1
funct3_of op.Slt = 2
funct3_of op.Sltu = 3
funct3_of op.Xor = 4
funct3_of op.Srl = 5
funct3_of op.Sra = 5
funct3_of op.Or = 6
funct3_of op.And = 7
funct3_of op.Mulh = 1
funct3_of op.Mulhsu = 2
funct3_of op.Mulhu = 3
funct3_of op.Div = 4
funct3_of op.Divu = 5
funct3_of op.Rem = 6
funct3_of op.Remu = 7
funct3_of o = 0

abbrev pub funct7_of : Op → ℕ
funct7_of op.Sub = 0x20
funct7_of op.Sra = 0x20
funct7_of op.Srai = 0x20
funct7_of op.Mul = 1
funct7_of op.Mulh = 1
funct7_of op.Mulhsu = 1
funct7_of op.Mulhu = 1
funct7_of op.Div = 1
funct7_of op.Divu = 1
funct7_of op.Rem = 1
funct7_of op.Remu = 1
funct7_of o = 0

abbrev pub is_shift_imm : Op → Bool
is_shift_imm op.Slli = true
is_shift_imm op.Srli = true
is_shift_imm op.Srai = true
is_shift_imm o = false

-- a fence is spelled with all its sets, and fence.i with its reserved fields zero
abbrev pub system_word : Op → ℕ
system_word op.Fence = 0x0ff0000f
system_word op.FenceI = 0x0000100f
system_word op.Ecall = 0x00000073
system_word op.Ebreak = 0x00100073
system_word o = 0

-- ---- words

-- a shift's amount stands in the place of rs2, with funct7 above it
abbrev pub imm_word : Op → ℕ → ℕ → ℤ → ℕ
imm_word o rd rs1 imm =
    if is_shift_imm o
    then r_form (funct7_of o) (bits imm 4 0) rs1 (funct3_of o) rd 0x13
    else i_form imm rs1 (funct3_of o) rd 0x13

unfoldable pub word_of : Instr → ℕ
word_of (Alu o rd rs1 rs2) = r_form (funct7_of o) rs2 rs1 (funct3_of o) rd 0x33
word_of (AluImm o rd rs1 imm) = imm_word o rd rs1 imm
word_of (Lui rd top) = u_form top rd 0x37
word_of (Auipc rd top) = u_form top rd 0x17
word_of (Jal rd imm) = j_form imm rd 0x6f
word_of (Jalr rd rs1 imm) = i_form imm rs1 0 rd 0x67
word_of (Branch o rs1 rs2 imm) = b_form imm rs2 rs1 (funct3_of o) 0x63
word_of (Load o rd rs1 imm) = i_form imm rs1 (funct3_of o) rd 0x03
word_of (Store o rs1 rs2 imm) = s_form imm rs2 rs1 (funct3_of o) 0x23
word_of (System o) = system_word o
