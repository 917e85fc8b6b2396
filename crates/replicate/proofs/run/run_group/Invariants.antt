use Rattle.std.proofs.Common.{◌≡◌, ℕ, List, None}
use Rattle.layout_run.specs.Advances.{TellsInput}
use Rattle.layout_run.specs.Outside.{faults, held}
use Rattle.replicate.specs.GroupStands.{IsGroup}
use Rattle.replicate.specs.Groups.{Group}
use Rattle.replicate.specs.Runs.{IsOnWay}
use Rattle.replicate.specs.Standings.{AreKept, IsSameInput}
use Rattle.replicate.proofs.run.run_group.Given as goal

abbrev pub invariant-loop : goal.invariant-loop
invariant-loop g l =
    AreKept l.tape l.group.seats.items × (l.group.refused ≡ None)
    × IsSameInput l.fn.tape l.tape (g.S.Source.left l.fn.input) (g.S.Source.left l.input)
    × (faults (g.S.Source.faults l.input) (g.O.Sink.faults l.out) (g.E.Sink.faults l.err) ≡ faults (g.S.Source.faults l.fn.input) (g.O.Sink.faults l.fn.out) (g.E.Sink.faults l.fn.err))
    × ((m : Group) (bytes : List ℕ) → TellsInput bytes l.fn.tape (g.S.Source.left l.fn.input) → IsGroup m l.fn.group
    → IsOnWay bytes m l.group l.fn.tape l.tape (held (g.O.Sink.held l.fn.out) (g.E.Sink.held l.fn.err)) (held (g.O.Sink.held l.out) (g.E.Sink.held l.err)))
