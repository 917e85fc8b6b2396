use Rattle.std.proofs.Common.{refl}
use Rattle.infinite_heap.specs.Row.{row}
use Rattle.rv_machine.proofs.decoded.Decoded.new.Goals as goal

pub invariant_of-vec : goal.invariant_of-vec
unfolding row
invariant_of-vec c = record { right = refl }
