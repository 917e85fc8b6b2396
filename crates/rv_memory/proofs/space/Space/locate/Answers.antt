use Rattle.rv_memory.proofs.Found.{placed-found}
use Rattle.rv_memory.proofs.space.Space.locate.Goals as goal

pub returns-in-Some : goal.returns-in-Some
returns-in-Some c =
    let place = c.in-Some.ensures in
    placed-found c.args.self.now c.in-Some.i c.args.addr c.index.result.now place.0 place.1 c.index.ensures
