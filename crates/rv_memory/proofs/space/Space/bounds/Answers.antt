use Rattle.rv_memory.specs.Spaces.{memory_of, ranges_of}
use Rattle.rv_memory.proofs.Found.{bounded}
use Rattle.rv_memory.proofs.space.Space.bounds.Goals as goal

pub returns : goal.returns
unfolding memory_of
returns c = bounded (ranges_of c.args.self.now)
