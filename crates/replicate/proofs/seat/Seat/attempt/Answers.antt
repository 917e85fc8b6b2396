use Rattle.std.proofs.Common.{ap, is_some, arith}
use Rattle.rv_machine.specs.Stands.{core_of}
use Rattle.replicate.proofs.Gated.{open-attempted, ready-attempted}
use Rattle.replicate.proofs.Seated.{going-as, one-counted, place-within, reads-on, seat-attempted}
use Rattle.replicate.proofs.seat.Seat.attempt.Goals as goal

pub advance-requires-clause-going : goal.advance-requires-clause-going
advance-requires-clause-going g c = going-as c.args.self.now.state c.args.self.now.machine c.args.self.now.ready c.requires.going

pub invariant_of-self : goal.invariant_of-self
invariant_of-self g c =
    let some = ap is_some c.requires.going in record {
      ready = ∣ ready-attempted c.in-Ok.progress c.args.self.now.machine c.advance.new.machine c.args.tape.now (g.S.Source.left c.args.input.now) c.args.self.now.place c.advance.new.place (going-as c.args.self.now.state c.args.self.now.machine c.args.self.now.ready c.requires.going) c.in-Ok.ensures.ready c.in-Ok.ensures.step ∣₁;
      budgeted = c.args.self.now.budgeted;
      counted = λ is. let one = one-counted c.in-Ok.progress (core_of c.args.self.now.machine).steps (core_of c.advance.new.machine).steps c.in-Ok.ensures.count in omega (arith, one, c.requires.budget);
      writes = open-attempted c.in-Ok.progress (core_of c.args.self.now.machine).steps (core_of c.advance.new.machine).steps c.args.self.now.budget c.in-Ok.ensures.count c.requires.budget;
      placed = λ is. place-within c.in-Ok.progress c.args.self.now.machine c.advance.new.machine c.args.tape.now (g.S.Source.left c.args.input.now) c.args.self.now.place c.advance.new.place c.steps_are_counted.ensures (going-as c.args.self.now.state c.args.self.now.machine c.args.self.now.ready c.requires.going) c.in-Ok.ensures.step (c.args.self.now.placed some) c.in-Ok.ensures.moves.1;
    }

pub returns-in-Ok-clause-step : goal.returns-in-Ok-clause-step
returns-in-Ok-clause-step g c = λ r bytes tells so.
    seat-attempted c.advances_are_steps.ensures bytes r c.in-Ok.progress c.args.self.now.state c.args.self.now.live c.args.self.now.mark c.args.self.now.machine c.advance.new.machine c.args.tape.now (g.S.Source.left c.args.input.now) c.args.self.now.place c.advance.new.place so c.requires.going tells c.requires.kept c.in-Ok.ensures.step

pub returns-in-Ok-clause-tape : goal.returns-in-Ok-clause-tape
returns-in-Ok-clause-tape g c = reads-on c.args.tape.now c.advance.new.tape (g.S.Source.left c.args.input.now) (g.S.Source.left c.advance.new.input) c.args.self.now.place c.advance.new.place c.requires.kept c.in-Ok.ensures.tape
