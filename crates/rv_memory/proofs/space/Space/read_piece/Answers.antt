use Rattle.std.proofs.Common.{◌+◌}
use Rattle.rv_memory.specs.declared.range.Purpose.TheVariants.{Reading}
use Rattle.rv_memory.specs.Ranges.{granted}
use Rattle.rv_memory.specs.Spaces.{memory_of}
use Rattle.rv_memory.proofs.Pieces.{clash}
use Rattle.rv_memory.proofs.space.Space.read_piece.Goals as goal

pub unreachable-requires : goal.unreachable-requires
unreachable-requires c =
    let nowhere = rw c.from.ensures at (c.in_default.ensures.missed Reading) in
    clash (granted Reading (memory_of c.args.self.now) (c.args.addr + c.args.done)) c.requires.mapped nowhere
