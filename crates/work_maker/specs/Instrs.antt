-- The pieces of a made program: docs/made-programs.md, "The program". An instruction's number counts from
-- 0, at the program's first.
use Rattle.std.specs.Prelude.{ℕ, ◌+◌, ◌*◌, pos, negsuc, ◌-ℤ◌, ℤ, List, [], ◌∷◌}
use Rattle.infinite_heap.specs.declared.instr.Instr.{Instr}
use Rattle.infinite_heap.specs.declared.instr.Instr.TheVariants.{Alu, AluImm, Lui, Jal, Branch, Load, Store, System}
use Rattle.infinite_heap.specs.declared.instr.Op.TheVariants as op

-- ---- instructions

abbrev pub addi : ℕ → ℕ → ℤ → Instr
addi rd rs1 imm = AluImm op.Addi rd rs1 imm

abbrev pub lw : ℕ → ℕ → ℕ → Instr
lw rd imm rs1 = Load op.Lw rd rs1 (pos imm)

abbrev pub sw : ℕ → ℕ → ℕ → Instr
sw rs2 imm rs1 = Store op.Sw rs1 rs2 (pos imm)

abbrev pub lbu : ℕ → ℕ → ℕ → Instr
lbu rd imm rs1 = Load op.Lbu rd rs1 (pos imm)

abbrev pub sb : ℕ → ℕ → ℕ → Instr
sb rs2 imm rs1 = Store op.Sb rs1 rs2 (pos imm)

abbrev pub malloc : ℕ
malloc = 0x10000

abbrev pub free : ℕ
free = 0x10004

-- the address of the instruction of that number
abbrev pub address_of : ℕ → ℕ
address_of nth = 0x10010 + 4 * nth

-- the instruction of that number, where it is a jal to an address
abbrev pub jal_to : (rd address nth : ℕ) → Instr
jal_to rd address nth = Jal rd (pos address -ℤ pos (address_of nth))

-- ---- pieces, each with the number of its first instruction

-- the table of places at 0x200000, no sum yet, and 16 rounds to go
unfoldable pub start : List Instr
start = Lui 8 0x200 ∷ addi 9 0 (pos 0) ∷ addi 18 0 (pos 16) ∷ []

-- the number of the body's first instruction
abbrev pub body : ℕ
body = 3

-- an object of that size into place k, and the byte into its first
unfoldable pub allocation : (k size byte nth : ℕ) → List Instr
allocation k size byte nth =
    addi 10 0 (pos size) ∷ jal_to 1 malloc (nth + 1) ∷ sw 10 (4 * k) 8 ∷ addi 11 0 (pos byte) ∷ sb 11 0 10 ∷ []

-- the first byte of the object in place k onto the sum, and the object freed
unfoldable pub release : (k nth : ℕ) → List Instr
release k nth = lw 10 (4 * k) 8 ∷ lbu 11 0 10 ∷ Alu op.Add 9 9 11 ∷ jal_to 1 free (nth + 3) ∷ []

-- one round less to go, and back to the body unless none is left
unfoldable pub again : ℕ → List Instr
again nth = addi 18 18 (negsuc 0) ∷ Branch op.Beq 18 0 (pos 8) ∷ jal_to 0 (address_of body) (nth + 2) ∷ []

-- the sum's four bytes printed, and exit with 0
unfoldable pub ending : List Instr
ending =
    sw 9 256 8
    ∷ addi 11 8 (pos 256) ∷ addi 10 0 (pos 1) ∷ addi 12 0 (pos 4) ∷ addi 17 0 (pos 64) ∷ System op.Ecall
    ∷ addi 10 0 (pos 0) ∷ addi 17 0 (pos 93) ∷ System op.Ecall
    ∷ []
