use Rattle.std.proofs.Common.{◌≡◌, ap, ◌∙◌, Some}
use Rattle.layout_run.specs.declared.step.Progress.TheVariants as progress
use Rattle.replicate.proofs.Gated.{span-shown}
use Rattle.replicate.proofs.seat.Seat.vote.Goals as goal

pub write_of-requires : goal.write_of-requires
write_of-requires c =
    let state : c.args.self.now.state ≡ Some (progress.Prints c.in-Some-Prints.fd c.in-Some-Prints.addr c.in-Some-Prints.len) = c.in-Some-Prints.is ∙ ap (λ p. Some p) (rw c.in-Some-Prints.is at c.in-Some-Prints.field-0-is) in
    span-shown c.args.self.now.state c.args.self.now.machine c.in-Some-Prints.fd c.in-Some-Prints.addr c.in-Some-Prints.len c.args.self.now.ready state
