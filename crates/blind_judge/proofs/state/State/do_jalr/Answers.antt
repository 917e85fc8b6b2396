use Rattle.std.proofs.Common.{subst}
use Rattle.infinite_heap.specs.InfiniteStep.{inf_jalr}
use Rattle.blind_judge.specs.Steps.{StepsAs}
use Rattle.blind_judge.proofs.state.State.do_jalr.Goals as goal

pub returns-clause-step : goal.returns-clause-step
returns-clause-step c cures input s h =
    subst (λ v. StepsAs cures input s (inf_jalr s c.args.rd c.args.rs1 v) c.jump_by_value.result c.jump_by_value.new.self) (c.address-at.ensures s h) (c.jump_by_value.ensures.step cures input s h)
