use Rattle.std.proofs.Common.{sym}
use Rattle.rv_memory.proofs.Found.{found-at, nowhere}
use Rattle.rv_memory.proofs.space.Space.range_at.Goals as goal

pub returns-in-Some-clause-found : goal.returns-in-Some-clause-found
returns-in-Some-clause-found c = found-at c.args.self.now c.args.addr c.in-Some.range.now (sym c.in-Some.ensures)

pub returns-in-None-clause-missed : goal.returns-in-None-clause-missed
returns-in-None-clause-missed c = nowhere c.args.self.now c.args.addr (sym c.in-None.ensures)
