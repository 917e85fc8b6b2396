use Rattle.std.proofs.Common.{◌<◌, subst, sym, arith}
use Rattle.rv_machine.specs.Stands.{core_of}
use Rattle.replicate.proofs.Gated.{going-writes}
use Rattle.replicate.proofs.Onward.{gone-counted, gone-going, seat-gone}
use Rattle.replicate.proofs.Seated.{going-as}
use Rattle.replicate.specs.Ready.{IsReadyAs}
use Rattle.replicate.proofs.seat.Seat.hurry.Goals as goal

pub go_on-requires-clause-ready : goal.go_on-requires-clause-ready
go_on-requires-clause-ready c = (going-as c.args.self.now.state c.args.self.now.machine c.args.self.now.ready c.requires.going).ready

pub invariant_of-self : goal.invariant_of-self
invariant_of-self c =
    let going = going-as c.args.self.now.state c.args.self.now.machine c.args.self.now.ready c.requires.going in
    let less : (core_of c.go_on.new.self).steps < c.args.self.now.budget = omega (arith, c.go_on.ensures.count, c.go_on.ensures.most, c.min.ensures, c.steps.ensures, c.requires.budget) in record {
      ready = ∣ subst (λ s. IsReadyAs s c.go_on.new.self) (sym c.requires.going) (gone-going c.go_on.result c.args.self.now.machine c.go_on.new.self going c.go_on.ensures.gone c.go_on.ensures.ready) ∣₁;
      budgeted = c.args.self.now.budgeted;
      counted = λ is. omega (arith, less);
      writes = λ writes. absurd (going-writes c.args.self.now.state c.requires.going writes);
      placed = λ is. gone-counted c.steps_are_counted.ensures c.steps_are_shaped.ensures.guest c.go_on.result c.args.self.now.machine c.go_on.new.self c.args.self.now.place going c.go_on.ensures.gone (c.args.self.now.placed is);
    }

pub returns-clause-onward : goal.returns-clause-onward
returns-clause-onward c = λ r bytes so fresh.
    let less : (core_of c.go_on.new.self).steps < c.args.self.now.budget = omega (arith, c.go_on.ensures.count, c.go_on.ensures.most, c.min.ensures, c.steps.ensures, c.requires.budget) in
    seat-gone c.steps_are_counted.ensures c.steps_are_shaped.ensures.guest bytes c.args.self.now.budget r c.go_on.result c.args.self.now.state c.args.self.now.live c.args.self.now.mark c.args.self.now.machine c.go_on.new.self c.args.self.now.place so c.requires.going fresh c.go_on.ensures.gone less
