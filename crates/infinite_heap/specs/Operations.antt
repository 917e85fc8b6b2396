-- Which operation on words an instruction's name stands for, whichever form its operands come from.
use Rattle.std.specs.declared.option.Option.{Option}
use Rattle.std.specs.declared.option.Option.TheVariants.{Some, None}
use Rattle.infinite_heap.specs.declared.instr.Op.{Op}
use Rattle.infinite_heap.specs.declared.instr.Op.TheVariants as op
use Rattle.infinite_heap.specs.declared.instr.Operation.{Operation}
use Rattle.infinite_heap.specs.declared.instr.Operation.TheVariants.{Add, Sub, Sll, Slt, Sltu, Xor, Srl, Sra, Or, And, Mul, Mulh, Mulhsu, Mulhu, Div, Divu, Rem, Remu}

-- None for a name that is no operation on words
abbrev pub operation_of : Op → Option Operation
operation_of op.Addi = Some Add
operation_of op.Slti = Some Slt
operation_of op.Sltiu = Some Sltu
operation_of op.Xori = Some Xor
operation_of op.Ori = Some Or
operation_of op.Andi = Some And
operation_of op.Slli = Some Sll
operation_of op.Srli = Some Srl
operation_of op.Srai = Some Sra
operation_of op.Add = Some Add
operation_of op.Sub = Some Sub
operation_of op.Sll = Some Sll
operation_of op.Slt = Some Slt
operation_of op.Sltu = Some Sltu
operation_of op.Xor = Some Xor
operation_of op.Srl = Some Srl
operation_of op.Sra = Some Sra
operation_of op.Or = Some Or
operation_of op.And = Some And
operation_of op.Mul = Some Mul
operation_of op.Mulh = Some Mulh
operation_of op.Mulhsu = Some Mulhsu
operation_of op.Mulhu = Some Mulhu
operation_of op.Div = Some Div
operation_of op.Divu = Some Divu
operation_of op.Rem = Some Rem
operation_of op.Remu = Some Remu
operation_of o = None
