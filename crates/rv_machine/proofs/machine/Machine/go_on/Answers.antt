use Rattle.std.proofs.Common.{arith, refl, ap, ◌∙◌}
use Rattle.rv_machine.specs.Core.{Core}
use Rattle.rv_machine.proofs.Executed.{none-gone, gone-more, gone-kept}
use Rattle.rv_machine.proofs.machine.Machine.go_on.Goals as goal

pub loop-i-init : goal.loop-i-init
loop-i-init c = record { gone = λ g at. none-gone g c.args.self.now at; ready = c.requires.ready; steps = omega arith; tag = refl }

pub returns-then-not-goes-clause-gone : goal.returns-then-not-goes-clause-gone
returns-then-not-goes-clause-gone c = λ g at. gone-kept g c.loop-i.i c.loop-i.self c.goes.new.self (c.loop-i.invariant.gone g at) c.if-not-goes.ensures.kept

pub returns-then-not-goes-clause-count : goal.returns-then-not-goes-clause-count
returns-then-not-goes-clause-count c = omega (arith, ap (λ (x : Core). x.steps) c.if-not-goes.ensures.core, c.loop-i.invariant.steps)

pub loop-i-preserved : goal.loop-i-preserved
loop-i-preserved c = record {
  gone = λ g at. gone-more g c.loop-i.i c.loop-i.self c.goes.new.self (c.loop-i.invariant.gone g at) c.if-not-goes.ensures.went;
  ready = c.goes.ensures.ready;
  steps = omega (arith, c.goes.ensures.count, c.loop-i.invariant.steps);
  tag = c.goes.ensures.tag ∙ c.loop-i.invariant.tag;
}
