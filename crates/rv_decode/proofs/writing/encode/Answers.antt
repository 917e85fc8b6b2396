use Rattle.std.proofs.Common.{rules, w32, FitsSigned}
use Rattle.std.proofs.lemmas.Int.{to_z-of_z}
use Rattle.rv_decode.proofs.Round.{imm_reads_back}
use Rattle.rv_decode.proofs.writing.encode.Goals as goal

pub returns-in-AluImm-clause-reads_back : goal.returns-in-AluImm-clause-reads_back
returns-in-AluImm-clause-reads_back c =
    let i = c.in-AluImm in
    let fits : FitsSigned w32 i.imm = search rules in
    let spelled = simp to_z-of_z at c.imm_word.ensures in
    imm_reads_back c.args.instr.now i.op i.rd i.rs1 i.imm c.imm_word.result c.requires i.is spelled
