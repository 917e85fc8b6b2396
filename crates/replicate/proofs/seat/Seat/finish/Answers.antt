use Rattle.std.proofs.Common.{◌≡◌, ◌<◌, ap, ◌∙◌, Some, is_some, sym, arith}
use Rattle.std.proofs.lemmas.Bool.{true≢false}
use Rattle.layout_run.specs.declared.step.Progress.TheVariants as progress
use Rattle.rv_machine.specs.Stands.{core_of}
use Rattle.replicate.proofs.Gated.{has-written, print-next}
use Rattle.replicate.specs.Ready.{is_writing}
use Rattle.replicate.proofs.seat.Seat.finish.Goals as goal

pub wrote-requires-clause-prints : goal.wrote-requires-clause-prints
wrote-requires-clause-prints c =
    let state : c.args.self.now.state ≡ Some (progress.Prints c.in-Some-Prints.field-0-0 c.in-Some-Prints.field-0-1 c.in-Some-Prints.field-0-2) = c.in-Some-Prints.is ∙ ap (λ p. Some p) (rw c.in-Some-Prints.is at c.in-Some-Prints.field-0-is) in
    print-next c.args.self.now.state c.args.self.now.machine c.in-Some-Prints.field-0-0 c.in-Some-Prints.field-0-1 c.in-Some-Prints.field-0-2 c.args.self.now.ready state

pub invariant_of-self : goal.invariant_of-self
invariant_of-self c =
    let state : c.args.self.now.state ≡ Some (progress.Prints c.in-Some-Prints.field-0-0 c.in-Some-Prints.field-0-1 c.in-Some-Prints.field-0-2) = c.in-Some-Prints.is ∙ ap (λ p. Some p) (rw c.in-Some-Prints.is at c.in-Some-Prints.field-0-is) in
    let done = has-written c.args.self.now.state c.args.self.now.machine c.wrote.new.self c.in-Some-Prints.field-0-0 c.in-Some-Prints.field-0-1 c.in-Some-Prints.field-0-2 c.args.self.now.ready state c.steps_are_shaped.ensures.core c.wrote.ensures.finishes in
    let less : (core_of c.args.self.now.machine).steps < c.args.self.now.budget = c.args.self.now.writes (ap is_writing state) in
    let steps = done.steps in record {
      ready = ∣ done.going ∣₁;
      budgeted = c.args.self.now.budgeted;
      counted = λ is. omega (arith, steps, less);
      writes = λ is. absurd (true≢false (sym is));
      placed = λ is. let small = c.args.self.now.placed (ap is_some state) in omega (arith, steps, small);
    }
