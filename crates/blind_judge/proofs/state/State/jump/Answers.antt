use Rattle.std.proofs.Common.{[]}
use Rattle.infinite_heap.specs.InfiniteState.{InfState, after, set_reg}
use Rattle.infinite_heap.specs.InfiniteStep.{inf_jump}
use Rattle.infinite_heap.specs.declared.value.Value.TheVariants.{Num}
use Rattle.site_hash.specs.Hint.{hinted}
use Rattle.blind_judge.proofs.StepsBy.{jump_goes, stepped}
use Rattle.blind_judge.proofs.state.State.jump.Goals as goal

pub returns-clause-step : goal.returns-clause-step
returns-clause-step c cures input s h =
    let from : InfState = record s { regs = set_reg s.regs c.args.rd (Num (after s.pc)); calls = hinted c.args.instr.now (after s.pc) s.calls } in
    let stands = c.go_to.ensures.step from (c.link.ensures.step s h) in
    stepped cures input s _ (inf_jump from c.args.target []) [] c.go_to.new.self (jump_goes from c.args.target [] c.if-target-ne0.false) tt stands
