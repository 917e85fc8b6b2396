use Rattle.infinite_heap.specs.InfiniteState.{set_reg}
use Rattle.blind_judge.proofs.state.State.pass_with.Goals as goal

pub returns-clause-step : goal.returns-clause-step
returns-clause-step c s h = c.pass.ensures.step (record s { regs = set_reg s.regs c.args.rd c.args.v }) (c.set_register.ensures.step s h)
