use Rattle.std.proofs.Common.{◌≡◌, ◌≤◌, ◌-◌, ℕ, List}
use Rattle.rv_machine.specs.Stands.{tag_in}
use Rattle.layout_run.specs.Advances.{TellsInput}
use Rattle.replicate.specs.Replicas.{Replica, onward}
use Rattle.replicate.specs.Seats.{IsSeat, ReadsOn}
use Rattle.replicate.proofs.seat.Seat.go_on.Given as goal

abbrev pub invariant-loop-i : goal.invariant-loop-i
invariant-loop-i g l = record {
  within : l.i ≤ l.fn.n;
  budget : l.self.budget ≡ l.fn.self.budget;
  tag : tag_in l.self.machine ≡ tag_in l.fn.self.machine;
  reads : ReadsOn l.fn.tape l.tape (g.S.Source.left l.fn.input) (g.S.Source.left l.input) l.self.place;
  so_far : (r : Replica) (bytes : List ℕ) → TellsInput bytes l.fn.tape (g.S.Source.left l.fn.input) → IsSeat r l.fn.self → IsSeat (onward bytes l.fn.self.budget l.i r) l.self;
  faults : g.S.Source.faults l.input ≡ g.S.Source.faults l.fn.input;
}

abbrev pub decreases-loop-i : goal.decreases-loop-i
decreases-loop-i g l = l.fn.n - l.i
