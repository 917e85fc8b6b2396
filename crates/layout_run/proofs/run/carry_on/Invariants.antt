use Rattle.std.proofs.Common.{◌≡◌, ◌≤◌, ◌*◌, ◌^◌, ◌-◌, ℕ, List, IfSome}
use Rattle.ex_io.specs.Tape.{input}
use Rattle.infinite_heap.specs.Loaded.{Loaded}
use Rattle.rv_machine.specs.Guest.{guest_start}
use Rattle.rv_machine.specs.Stands.{IsAt, core_of, tag_in}
use Rattle.rv_machine.specs.declared.settings.Settings.{Settings}
use Rattle.layout_run.specs.Advances.{Follows, IsGoing}
use Rattle.layout_run.specs.Outside.{faults, held}
use Rattle.layout_run.proofs.SoFar.{IsSoFar}
use Rattle.layout_run.proofs.Watched.{IsTaken}
use Rattle.layout_run.proofs.run.carry_on.Given as goal

abbrev pub invariant-loop-i : goal.invariant-loop-i
invariant-loop-i g l = record {
  going : IsGoing l.machine;
  within : l.i ≤ l.fn.budget;
  steps : (core_of l.machine).steps ≤ l.i;
  tag : tag_in l.machine ≡ tag_in l.fn.machine;
  follows : Follows l.fn.tape l.tape (g.S.Source.left l.fn.input) (g.S.Source.left l.input) l.place;
  small : l.place ≤ l.i * 2 ^ 32;
  so_far : (program : Loaded) (args : List (List ℕ)) (settings : Settings) → IsAt (guest_start program args settings) l.fn.machine → tag_in l.fn.machine ≡ program.tag → IfSome (input l.fn.tape (g.S.Source.left l.fn.input)) (λ bytes.
      IsSoFar program args settings bytes l.fn.stop_at l.i l.machine l.place (held (g.O.Sink.held l.fn.out) (g.E.Sink.held l.fn.err)) (held (g.O.Sink.held l.out) (g.E.Sink.held l.err))
      × IsTaken l.fn.watches program args settings bytes l.i l.taken);
  faults : faults (g.S.Source.faults l.input) (g.O.Sink.faults l.out) (g.E.Sink.faults l.err) ≡ faults (g.S.Source.faults l.fn.input) (g.O.Sink.faults l.fn.out) (g.E.Sink.faults l.fn.err);
}

abbrev pub decreases-loop-i : goal.decreases-loop-i
decreases-loop-i g l = l.fn.budget - l.i
