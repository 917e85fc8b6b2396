use Rattle.std.proofs.Common.{◌≡◌, ℕ, List, None, length}
use Rattle.ex_io.specs.Tape.{Track}
use Rattle.layout_run.specs.Advances.{TellsInput}
use Rattle.layout_run.specs.Outside.{Held}
use Rattle.replicate.specs.Groups.{Group}
use Rattle.replicate.specs.Runs.{IsOnWay}
use Rattle.replicate.specs.Standings.{AreKept, IsSameInput}
use Rattle.replicate.proofs.run.turns.Given as goal

abbrev pub invariant-loop-i : goal.invariant-loop-i
invariant-loop-i g l =
    AreKept l.tape l.group.seats.items × (l.group.refused ≡ None) × (length l.group.seats.items ≡ length l.fn.group.seats.items)
    × IsSameInput l.fn.tape l.tape (g.S.Source.left l.fn.input) (g.S.Source.left l.input) × (g.S.Source.faults l.input ≡ g.S.Source.faults l.fn.input)
    × ((bytes : List ℕ) (start : Group) (first : Track) (before after : Held) → TellsInput bytes l.fn.tape (g.S.Source.left l.fn.input) → IsOnWay bytes start l.fn.group first l.fn.tape before after → IsOnWay bytes start l.group first l.tape before after)
