use Rattle.std.proofs.Common.{◌≡◌, ◌-◌, length}
use Rattle.ex_io.specs.Tape.{Fills}
use Rattle.ex_io.proofs.tape.take_up_to.Given as goal

abbrev pub invariant-loop-piece : goal.invariant-loop-piece
invariant-loop-piece g l = Fills l.initial.bytes.items l.bytes.items (g.S.Source.left l.initial.source) (g.S.Source.left l.source) l.wanted × (g.S.Source.faults l.source ≡ g.S.Source.faults l.initial.source)

abbrev pub decreases-loop-piece : goal.decreases-loop-piece
decreases-loop-piece g l = l.wanted - length l.bytes.items
