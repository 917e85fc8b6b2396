use Rattle.std.proofs.Common.{sym, subst}
use Rattle.infinite_heap.specs.InfiniteStep.{inf_jalr}
use Rattle.blind_judge.specs.Steps.{StepsAs}
use Rattle.blind_judge.proofs.state.State.jump_by_value.Goals as goal

pub returns-in-Num-clause-step : goal.returns-in-Num-clause-step
returns-in-Num-clause-step c cures input s h =
    subst (λ v. StepsAs cures input s (inf_jalr s c.args.rd c.args.rs1 v) c.jump.result c.jump.new.self) (sym c.in-Num.is) (c.jump.ensures.step cures input s h)
