use Rattle.std.proofs.Common.{arith}
use Rattle.diefast_canary.proofs.Vectors.{intact_words}
use Rattle.diefast_canary.proofs.lanes.Goals as goal

pub returns-clause-intact : goal.returns-clause-intact
returns-clause-intact c = intact_words c.args.word c.args.phase c.turned.result 8 (omega arith) c.turned.ensures
