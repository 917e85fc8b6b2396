use Rattle.std.proofs.Common.{◌+◌, ◌%◌, ◌^◌, sym, subst, []}
use Rattle.infinite_heap.specs.InfiniteStep.{inf_jump}
use Rattle.blind_judge.specs.Steps.{StepsAs}
use Rattle.infinite_heap.specs.Calls.{after_jal}
use Rattle.infinite_heap.specs.InfiniteState.{after, set_reg}
use Rattle.infinite_heap.specs.declared.value.Value.TheVariants.{Num}
use Rattle.blind_judge.proofs.state.State.do_jal.Goals as goal

pub returns-clause-step : goal.returns-clause-step
returns-clause-step c cures input s h =
    subst (λ pc. StepsAs cures input s (inf_jump (record s { regs = set_reg s.regs c.args.rd (Num (after s.pc)); calls = after_jal c.args.rd (after s.pc) s.calls }) ((pc + c.args.word) % 2 ^ 32) []) c.jump.result c.jump.new.self) (sym h.pc) (c.jump.ensures.step cures input s h)
