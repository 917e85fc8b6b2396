use Rattle.std.proofs.Common.{sym, subst}
use Rattle.infinite_heap.specs.InfiniteState.{after, set_reg}
use Rattle.infinite_heap.specs.declared.value.Value.TheVariants.{Num}
use Rattle.site_hash.specs.Hint.{hinted}
use Rattle.blind_judge.specs.Stands.{Stands}
use Rattle.blind_judge.proofs.state.State.link.Goals as goal

pub returns-clause-step : goal.returns-clause-step
returns-clause-step c s h =
    let back = after c.args.self.now.pc in
    let first = c.hint.ensures.step s h in
    let both = c.set_register.ensures.step (record s { calls = hinted c.args.instr.now back s.calls }) first in
    subst (λ pc. Stands c.set_register.new.self (record s { regs = set_reg s.regs c.args.rd (Num (after pc)); calls = hinted c.args.instr.now (after pc) s.calls })) (sym h.pc) both
