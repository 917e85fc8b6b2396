use Rattle.std.proofs.Common.{sym, subst}
use Rattle.rv_memory.specs.Ranges.{IsInOrder}
use Rattle.rv_memory.proofs.space.Space.remember.Goals as goal

pub place_of-requires : goal.place_of-requires
place_of-requires c = subst IsInOrder (sym c.deref.ensures.value) c.args.self.now.order
