use Rattle.std.proofs.Common.{subst}
use Rattle.infinite_heap.specs.InfiniteStep.{decide, inf_branch}
use Rattle.blind_judge.specs.Patches.{cures_of}
use Rattle.blind_judge.specs.Steps.{StepsAs}
use Rattle.infinite_heap.specs.Objects.{size_in}
use Rattle.blind_judge.proofs.state.State.do_branch.Goals as goal

pub returns-clause-step : goal.returns-clause-step
returns-clause-step c input s h =
    subst (λ x. StepsAs (cures_of c.args.patches.now) input s (inf_branch s c.args.word (decide (size_in s.objects) c.args.op x (s.regs c.args.rs2))) c.branch-self.result c.branch-self.new.self) (c.register-x.ensures.same s h)
    (subst (λ y. StepsAs (cures_of c.args.patches.now) input s (inf_branch s c.args.word (decide (size_in s.objects) c.args.op c.register-x.result y)) c.branch-self.result c.branch-self.new.self) (c.register-y.ensures.same s h) (c.branch-self.ensures.step input s h))
