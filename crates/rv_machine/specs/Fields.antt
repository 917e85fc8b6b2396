-- Instructions in the form in which they are carried out, and what carrying one out does.
use Rattle.std.specs.Prelude.{ℕ, ◌+◌, ◌*◌, ◌/◌, ◌%◌, ◌^◌, ◌<◌}
use Rattle.std.specs.Option.{option_map}
use Rattle.std.specs.declared.option.Option.{Option}
use Rattle.infinite_heap.specs.declared.instr.Instr.{Instr}
use Rattle.infinite_heap.specs.declared.instr.Instr.TheVariants as instr
use Rattle.infinite_heap.specs.declared.instr.Op.{Op}
use Rattle.infinite_heap.specs.declared.instr.Op.TheVariants as op
use Rattle.infinite_heap.specs.declared.instr.Operation.TheVariants.{Add}
use Rattle.infinite_heap.specs.Alu.{alu}
use Rattle.infinite_heap.specs.Calls.{after_jal, after_jalr}
use Rattle.infinite_heap.specs.InfiniteState.{after}
use Rattle.infinite_heap.specs.InfiniteStep.{imm_word}
use Rattle.infinite_heap.specs.Operations.{operation_of}
use Rattle.infinite_heap.specs.Row.{row}
use Rattle.rv_machine.specs.declared.fields.Fields.{Fields}
use Rattle.rv_machine.specs.Core.{Core, Next, Goes, register, stepped}
use Rattle.rv_machine.specs.Steps.{branched, holds, jump_and_link, load, operate, store, system}

abbrev pub make : Op → (rd rs1 rs2 imm : ℕ) → Fields
make o rd rs1 rs2 imm = record { op = o; rd = rd; rs1 = rs1; rs2 = rs2; imm = imm }

-- the name of an instruction, its registers, and its immediate as a word; 0 stands for what it has none of
abbrev pub fields_of : Instr → Fields
fields_of (instr.Alu o rd rs1 rs2) = make o rd rs1 rs2 0
fields_of (instr.AluImm o rd rs1 imm) = make o rd rs1 0 (imm_word imm)
fields_of (instr.Lui rd top) = make op.Lui rd 0 0 (top * 4096)
fields_of (instr.Auipc rd top) = make op.Auipc rd 0 0 (top * 4096)
fields_of (instr.Jal rd imm) = make op.Jal rd 0 0 (imm_word imm)
fields_of (instr.Jalr rd rs1 imm) = make op.Jalr rd rs1 0 (imm_word imm)
fields_of (instr.Branch o rs1 rs2 imm) = make o 0 rs1 rs2 (imm_word imm)
fields_of (instr.Load o rd rs1 imm) = make o rd rs1 0 (imm_word imm)
fields_of (instr.Store o rs1 rs2 imm) = make o 0 rs1 rs2 (imm_word imm)
fields_of (instr.System o) = make o 0 0 0 0

-- those of the instruction that a word is
abbrev pub fields_at : (word : ℕ) → Option Fields
fields_at word = option_map fields_of (row word)

-- registers are below 32
abbrev pub NamesRegisters : Fields → Type 0
NamesRegisters f = (f.rd < 32) × (f.rs1 < 32) × (f.rs2 < 32)

-- ---- each kind of instruction

abbrev pub on_registers : Core → Fields → Next
on_registers core f = operate core f.rd (operation_of f.op) (register core f.rs1) (register core f.rs2)

abbrev pub on_immediate : Core → Fields → Next
on_immediate core f = operate core f.rd (operation_of f.op) (register core f.rs1) f.imm

abbrev pub branching : Core → Fields → Next
branching core f = branched core f.imm (holds f.op (register core f.rs1) (register core f.rs2))

abbrev pub loading : Core → Fields → Next
loading core f = load core f.op f.rd (alu Add (register core f.rs1) f.imm)

abbrev pub storing : Core → Fields → Next
storing core f = store core f.op (register core f.rs2) (alu Add (register core f.rs1) f.imm)

abbrev pub jumping : Core → Fields → Next
jumping core f = jump_and_link core f.rd ((core.pc + f.imm) % 2 ^ 32) (after_jal f.rd (after core.pc) core.calls)

abbrev pub jumping_by_register : Core → Fields → Next
jumping_by_register core f = jump_and_link core f.rd (alu Add (register core f.rs1) f.imm / 2 * 2) (after_jalr f.rd f.rs1 (after core.pc) core.calls)

-- ---- instructions, by their names

abbrev pub by_name : Op → Core → Fields → Next
by_name op.Lui core f = Goes (stepped core f.rd f.imm)
by_name op.Auipc core f = Goes (stepped core f.rd ((core.pc + f.imm) % 2 ^ 32))
by_name op.Jal core f = jumping core f
by_name op.Jalr core f = jumping_by_register core f
by_name op.Beq core f = branching core f
by_name op.Bne core f = branching core f
by_name op.Blt core f = branching core f
by_name op.Bge core f = branching core f
by_name op.Bltu core f = branching core f
by_name op.Bgeu core f = branching core f
by_name op.Lb core f = loading core f
by_name op.Lh core f = loading core f
by_name op.Lw core f = loading core f
by_name op.Lbu core f = loading core f
by_name op.Lhu core f = loading core f
by_name op.Sb core f = storing core f
by_name op.Sh core f = storing core f
by_name op.Sw core f = storing core f
by_name op.Addi core f = on_immediate core f
by_name op.Slti core f = on_immediate core f
by_name op.Sltiu core f = on_immediate core f
by_name op.Xori core f = on_immediate core f
by_name op.Ori core f = on_immediate core f
by_name op.Andi core f = on_immediate core f
by_name op.Slli core f = on_immediate core f
by_name op.Srli core f = on_immediate core f
by_name op.Srai core f = on_immediate core f
by_name op.Fence core f = system core f.op
by_name op.FenceI core f = system core f.op
by_name op.Ecall core f = system core f.op
by_name op.Ebreak core f = system core f.op
by_name o core f = on_registers core f

abbrev pub carried : Core → Fields → Next
carried core f = by_name f.op core f
