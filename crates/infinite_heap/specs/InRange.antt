-- The instructions that a word can hold: the name is of the instruction's kind, registers are below 32,
-- and the immediate is one that its form can hold ("Immediate Encoding Variants" of the RISC-V
-- Unprivileged ISA manual).
use Rattle.std.specs.Prelude.{◌≡◌, ◌<◌, ◌%◌, ◌^◌, Bool, true, false, IsTrue, ℤ, pos, neg_ℤ, ◌≤ℤ◌, ◌<ℤ◌}
use Rattle.infinite_heap.specs.declared.instr.Instr.{Instr}
use Rattle.infinite_heap.specs.declared.instr.Instr.TheVariants.{Alu, AluImm, Lui, Auipc, Jal, Jalr, Branch, Load, Store, System}
use Rattle.infinite_heap.specs.declared.instr.Op.{Op}
use Rattle.infinite_heap.specs.declared.instr.Op.TheVariants as op
use Rattle.infinite_heap.specs.Alu.{word}

-- ---- the names of each kind

abbrev pub is_register_op : Op → Bool
is_register_op op.Add = true
is_register_op op.Sub = true
is_register_op op.Sll = true
is_register_op op.Slt = true
is_register_op op.Sltu = true
is_register_op op.Xor = true
is_register_op op.Srl = true
is_register_op op.Sra = true
is_register_op op.Or = true
is_register_op op.And = true
is_register_op op.Mul = true
is_register_op op.Mulh = true
is_register_op op.Mulhsu = true
is_register_op op.Mulhu = true
is_register_op op.Div = true
is_register_op op.Divu = true
is_register_op op.Rem = true
is_register_op op.Remu = true
is_register_op o = false

abbrev pub is_branch_op : Op → Bool
is_branch_op op.Beq = true
is_branch_op op.Bne = true
is_branch_op op.Blt = true
is_branch_op op.Bge = true
is_branch_op op.Bltu = true
is_branch_op op.Bgeu = true
is_branch_op o = false

abbrev pub is_load_op : Op → Bool
is_load_op op.Lb = true
is_load_op op.Lh = true
is_load_op op.Lw = true
is_load_op op.Lbu = true
is_load_op op.Lhu = true
is_load_op o = false

abbrev pub is_store_op : Op → Bool
is_store_op op.Sb = true
is_store_op op.Sh = true
is_store_op op.Sw = true
is_store_op o = false

abbrev pub is_system_op : Op → Bool
is_system_op op.Fence = true
is_system_op op.FenceI = true
is_system_op op.Ecall = true
is_system_op op.Ebreak = true
is_system_op o = false

-- ---- immediates

-- low ≤ z < high
abbrev pub IsWithin : ℤ → ℤ → ℤ → Type 0
IsWithin low high z = (low ≤ℤ z) × (z <ℤ high)

-- twelve bits, signed: the I and S forms
abbrev pub IsImm12 : ℤ → Type 0
IsImm12 imm = IsWithin (neg_ℤ (pos 2048)) (pos 2048) imm

-- thirteen bits, signed, the lowest of them zero: the B form
abbrev pub IsImmB : ℤ → Type 0
IsImmB imm = IsWithin (neg_ℤ (pos 4096)) (pos 4096) imm × (word imm % 2 ≡ 0)

-- twenty-one bits, signed, the lowest of them zero: the J form
abbrev pub IsImmJ : ℤ → Type 0
IsImmJ imm = IsWithin (neg_ℤ (pos 1048576)) (pos 1048576) imm × (word imm % 2 ≡ 0)

-- what an operation with an immediate can hold; ⊥ for every other name
abbrev pub HoldsImm : Op → ℤ → Type 0
HoldsImm op.Addi imm = IsImm12 imm
HoldsImm op.Slti imm = IsImm12 imm
HoldsImm op.Sltiu imm = IsImm12 imm
HoldsImm op.Xori imm = IsImm12 imm
HoldsImm op.Ori imm = IsImm12 imm
HoldsImm op.Andi imm = IsImm12 imm
HoldsImm op.Slli imm = IsWithin (pos 0) (pos 32) imm
HoldsImm op.Srli imm = IsWithin (pos 0) (pos 32) imm
HoldsImm op.Srai imm = IsWithin (pos 0) (pos 32) imm
HoldsImm o imm = ⊥

-- ---- instructions

abbrev pub IsInRange : Instr → Type 0
IsInRange (Alu o rd rs1 rs2) = IsTrue (is_register_op o) × (rd < 32) × (rs1 < 32) × (rs2 < 32)
IsInRange (AluImm o rd rs1 imm) = (rd < 32) × (rs1 < 32) × HoldsImm o imm
IsInRange (Lui rd top) = (rd < 32) × (top < 2 ^ 20)
IsInRange (Auipc rd top) = (rd < 32) × (top < 2 ^ 20)
IsInRange (Jal rd imm) = (rd < 32) × IsImmJ imm
IsInRange (Jalr rd rs1 imm) = (rd < 32) × (rs1 < 32) × IsImm12 imm
IsInRange (Branch o rs1 rs2 imm) = IsTrue (is_branch_op o) × (rs1 < 32) × (rs2 < 32) × IsImmB imm
IsInRange (Load o rd rs1 imm) = IsTrue (is_load_op o) × (rd < 32) × (rs1 < 32) × IsImm12 imm
IsInRange (Store o rs1 rs2 imm) = IsTrue (is_store_op o) × (rs1 < 32) × (rs2 < 32) × IsImm12 imm
IsInRange (System o) = IsTrue (is_system_op o)
