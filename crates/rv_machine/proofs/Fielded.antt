-- Carrying out an instruction by its fields does what the instruction does.
use Rattle.std.proofs.Common.{◌≡◌, ℕ, subst, refl, ap, sym, ◌∙◌, arith, IsTrue, IfSome, ℤ, Option, None, Some}
use Rattle.std.specs.Prelude.{IsSomeAnd}
use Rattle.std.specs.Option.{option_map}
use Rattle.infinite_heap.specs.declared.instr.Instr.{Instr}
use Rattle.infinite_heap.specs.declared.instr.Instr.TheVariants.{Alu, AluImm, Lui, Auipc, Jal, Jalr, Branch, Load, Store, System}
use Rattle.infinite_heap.specs.declared.instr.Op.{Op}
use Rattle.infinite_heap.specs.declared.instr.Op.TheVariants as op
use Rattle.infinite_heap.specs.InRange.{IsInRange, HoldsImm, is_register_op, is_branch_op, is_load_op, is_store_op, is_system_op}
use Rattle.infinite_heap.specs.Row.{row}
use Rattle.rv_decode.specs.Laws.{RowsAreInRange}
use Rattle.rv_machine.specs.declared.fields.Fields.{Fields}
use Rattle.rv_machine.specs.Core.{Core}
use Rattle.rv_machine.specs.Fields.{fields_of, fields_at, NamesRegisters, on_registers, on_immediate, branching, loading, storing, by_name, carried}
use Rattle.rv_machine.specs.Steps.{decoded, executed, system}

-- ---- the kind of each name

registers-name : (o : Op) → IsTrue (is_register_op o) → (core : Core) (f : Fields) → by_name o core f ≡ on_registers core f
registers-name op.Add named core f = refl
registers-name op.Sub named core f = refl
registers-name op.Sll named core f = refl
registers-name op.Slt named core f = refl
registers-name op.Sltu named core f = refl
registers-name op.Xor named core f = refl
registers-name op.Srl named core f = refl
registers-name op.Sra named core f = refl
registers-name op.Or named core f = refl
registers-name op.And named core f = refl
registers-name op.Mul named core f = refl
registers-name op.Mulh named core f = refl
registers-name op.Mulhsu named core f = refl
registers-name op.Mulhu named core f = refl
registers-name op.Div named core f = refl
registers-name op.Divu named core f = refl
registers-name op.Rem named core f = refl
registers-name op.Remu named core f = refl
registers-name o named core f = absurd (cc)

immediate-name : (o : Op) (imm : ℤ) → HoldsImm o imm → (core : Core) (f : Fields) → by_name o core f ≡ on_immediate core f
immediate-name op.Addi imm holds core f = refl
immediate-name op.Slti imm holds core f = refl
immediate-name op.Sltiu imm holds core f = refl
immediate-name op.Xori imm holds core f = refl
immediate-name op.Ori imm holds core f = refl
immediate-name op.Andi imm holds core f = refl
immediate-name op.Slli imm holds core f = refl
immediate-name op.Srli imm holds core f = refl
immediate-name op.Srai imm holds core f = refl
immediate-name o imm holds core f = absurd holds

branch-name : (o : Op) → IsTrue (is_branch_op o) → (core : Core) (f : Fields) → by_name o core f ≡ branching core f
branch-name op.Beq named core f = refl
branch-name op.Bne named core f = refl
branch-name op.Blt named core f = refl
branch-name op.Bge named core f = refl
branch-name op.Bltu named core f = refl
branch-name op.Bgeu named core f = refl
branch-name o named core f = absurd (cc)

load-name : (o : Op) → IsTrue (is_load_op o) → (core : Core) (f : Fields) → by_name o core f ≡ loading core f
load-name op.Lb named core f = refl
load-name op.Lh named core f = refl
load-name op.Lw named core f = refl
load-name op.Lbu named core f = refl
load-name op.Lhu named core f = refl
load-name o named core f = absurd (cc)

store-name : (o : Op) → IsTrue (is_store_op o) → (core : Core) (f : Fields) → by_name o core f ≡ storing core f
store-name op.Sb named core f = refl
store-name op.Sh named core f = refl
store-name op.Sw named core f = refl
store-name o named core f = absurd (cc)

system-name : (o : Op) → IsTrue (is_system_op o) → (core : Core) (f : Fields) → by_name o core f ≡ system core f.op
system-name op.Fence named core f = refl
system-name op.FenceI named core f = refl
system-name op.Ecall named core f = refl
system-name op.Ebreak named core f = refl
system-name o named core f = absurd (cc)

-- ---- instructions

carried-fields : (core : Core) (i : Instr) → IsInRange i → executed core i ≡ carried core (fields_of i)
carried-fields core (Alu o rd rs1 rs2) range = sym (registers-name o range.0 core (fields_of (Alu o rd rs1 rs2)))
carried-fields core (AluImm o rd rs1 imm) range = sym (immediate-name o imm range.2 core (fields_of (AluImm o rd rs1 imm)))
carried-fields core (Lui rd top) range = refl
carried-fields core (Auipc rd top) range = refl
carried-fields core (Jal rd imm) range = refl
carried-fields core (Jalr rd rs1 imm) range = refl
carried-fields core (Branch o rs1 rs2 imm) range = sym (branch-name o range.0 core (fields_of (Branch o rs1 rs2 imm)))
carried-fields core (Load o rd rs1 imm) range = sym (load-name o range.0 core (fields_of (Load o rd rs1 imm)))
carried-fields core (Store o rs1 rs2 imm) range = sym (store-name o range.0 core (fields_of (Store o rs1 rs2 imm)))
carried-fields core (System o) range = sym (system-name o range core (fields_of (System o)))

names-registers : (i : Instr) → IsInRange i → NamesRegisters (fields_of i)
names-registers (Alu o rd rs1 rs2) range = (range.1, range.2, range.3)
names-registers (AluImm o rd rs1 imm) range = (range.0, range.1, omega arith)
names-registers (Lui rd top) range = (range.0, omega arith, omega arith)
names-registers (Auipc rd top) range = (range.0, omega arith, omega arith)
names-registers (Jal rd imm) range = (range.0, omega arith, omega arith)
names-registers (Jalr rd rs1 imm) range = (range.0, range.1, omega arith)
names-registers (Branch o rs1 rs2 imm) range = (omega arith, range.1, range.2)
names-registers (Load o rd rs1 imm) range = (range.1, range.2, omega arith)
names-registers (Store o rs1 rs2 imm) range = (omega arith, range.1, range.2)
names-registers (System o) range = (omega arith, omega arith, omega arith)

-- ---- words

of-some : (core : Core) (f : Fields) (o : Option Instr) → IfSome o IsInRange → Some f ≡ option_map fields_of o → (decoded core o ≡ carried core f) × NamesRegisters f
of-some core f None range is = absurd (cc)
of-some core f (Some i) range is =
    let same : fields_of i ≡ f = cc in
    (carried-fields core i range ∙ ap (carried core) same, subst NamesRegisters same (names-registers i range))

-- what the word's instruction does is what its fields do, and they name registers
pub fields-do : RowsAreInRange → (core : Core) (word : ℕ) (f : Fields) → Some f ≡ fields_at word → (decoded core (row word) ≡ carried core f) × NamesRegisters f
fields-do rows core word f is = of-some core f (row word) (rows word) is

-- fields that are kept are those of the word
pub fields-kept : {A : Type 0} (of : A → Fields) (o : Option A) (f : Fields) (want : Option Fields) → IsSomeAnd o (λ e. want ≡ Some (of e)) → IsSomeAnd o (λ e. f ≡ of e) → Some f ≡ want
fields-kept of None f want kept is = absurd kept
fields-kept of (Some e) f want kept is = ap Some is ∙ sym kept
