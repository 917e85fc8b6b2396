-- The text of an instruction at a place (docs/instructions.md, "Text").
use Rattle.std.specs.Prelude.{ℕ, ◌+◌, ◌%◌, ◌^◌, ℤ, false, List, ◌++◌, codes}
use Rattle.std.specs.Fmt.{decimal, signed_decimal, digits}
use Rattle.infinite_heap.specs.declared.instr.Instr.{Instr}
use Rattle.infinite_heap.specs.declared.instr.Instr.TheVariants.{Alu, AluImm, Lui, Auipc, Jal, Jalr, Branch, Load, Store, System}
use Rattle.infinite_heap.specs.declared.instr.Op.{Op}
use Rattle.infinite_heap.specs.declared.instr.Op.TheVariants as op
use Rattle.infinite_heap.specs.Alu.{word}
use Rattle.hex_text.specs.Hex.{hex_of}

-- the manual's name in lower case
abbrev pub name_of : Op → List ℕ
name_of op.Lui = codes "lui"
name_of op.Auipc = codes "auipc"
name_of op.Jal = codes "jal"
name_of op.Jalr = codes "jalr"
name_of op.Beq = codes "beq"
name_of op.Bne = codes "bne"
name_of op.Blt = codes "blt"
name_of op.Bge = codes "bge"
name_of op.Bltu = codes "bltu"
name_of op.Bgeu = codes "bgeu"
name_of op.Lb = codes "lb"
name_of op.Lh = codes "lh"
name_of op.Lw = codes "lw"
name_of op.Lbu = codes "lbu"
name_of op.Lhu = codes "lhu"
name_of op.Sb = codes "sb"
name_of op.Sh = codes "sh"
name_of op.Sw = codes "sw"
name_of op.Addi = codes "addi"
name_of op.Slti = codes "slti"
name_of op.Sltiu = codes "sltiu"
name_of op.Xori = codes "xori"
name_of op.Ori = codes "ori"
name_of op.Andi = codes "andi"
name_of op.Slli = codes "slli"
name_of op.Srli = codes "srli"
name_of op.Srai = codes "srai"
name_of op.Add = codes "add"
name_of op.Sub = codes "sub"
name_of op.Sll = codes "sll"
name_of op.Slt = codes "slt"
name_of op.Sltu = codes "sltu"
name_of op.Xor = codes "xor"
name_of op.Srl = codes "srl"
name_of op.Sra = codes "sra"
name_of op.Or = codes "or"
name_of op.And = codes "and"
name_of op.Mul = codes "mul"
name_of op.Mulh = codes "mulh"
name_of op.Mulhsu = codes "mulhsu"
name_of op.Mulhu = codes "mulhu"
name_of op.Div = codes "div"
name_of op.Divu = codes "divu"
name_of op.Rem = codes "rem"
name_of op.Remu = codes "remu"
name_of op.Fence = codes "fence"
name_of op.FenceI = codes "fence.i"
name_of op.Ecall = codes "ecall"
name_of op.Ebreak = codes "ebreak"

-- where a branch or a jump at pc goes to
abbrev pub target : ℕ → ℤ → ℕ
target pc imm = (pc + word imm) % 2 ^ 32

-- ---- operands, each with what stands before it

abbrev pub first_register : ℕ → List ℕ → List ℕ
first_register n rest = codes " x" ++ (decimal n ++ rest)

abbrev pub next_register : ℕ → List ℕ → List ℕ
next_register n rest = codes ", x" ++ (decimal n ++ rest)

abbrev pub last_register : ℕ → List ℕ
last_register n = codes ", x" ++ decimal n

abbrev pub next_number : ℤ → List ℕ
next_number z = codes ", " ++ signed_decimal z

-- an offset from a register, as in 4(x2)
abbrev pub next_place : ℤ → ℕ → List ℕ
next_place offset base = codes ", " ++ (signed_decimal offset ++ (codes "(x" ++ (decimal base ++ codes ")")))

-- twenty bits, with no leading zero
abbrev pub next_top : ℕ → List ℕ
next_top top = codes ", 0x" ++ digits 16 false top

abbrev pub next_address : ℕ → List ℕ
next_address n = codes ", 0x" ++ hex_of 8 n

-- ---- lines

unfoldable pub text_of : Instr → ℕ → List ℕ
text_of (Alu o rd rs1 rs2) pc = name_of o ++ first_register rd (next_register rs1 (last_register rs2))
text_of (AluImm o rd rs1 imm) pc = name_of o ++ first_register rd (next_register rs1 (next_number imm))
text_of (Lui rd top) pc = codes "lui" ++ first_register rd (next_top top)
text_of (Auipc rd top) pc = codes "auipc" ++ first_register rd (next_top top)
text_of (Jal rd imm) pc = codes "jal" ++ first_register rd (next_address (target pc imm))
text_of (Jalr rd rs1 imm) pc = codes "jalr" ++ first_register rd (next_place imm rs1)
text_of (Branch o rs1 rs2 imm) pc = name_of o ++ first_register rs1 (next_register rs2 (next_address (target pc imm)))
text_of (Load o rd rs1 imm) pc = name_of o ++ first_register rd (next_place imm rs1)
text_of (Store o rs1 rs2 imm) pc = name_of o ++ first_register rs2 (next_place imm rs1)
text_of (System o) pc = name_of o
