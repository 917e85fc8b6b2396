use Rattle.std.proofs.Common.{sym, ◌∙◌}
use Rattle.infinite_heap.specs.InfiniteState.{cells_of_state}
use Rattle.blind_judge.proofs.Numbers.{no_numbers, numbers_step}
use Rattle.blind_judge.proofs.state.State.are_numbers.Goals as goal

pub loop-left-preserved : goal.loop-left-preserved
loop-left-preserved c s h =
    c.loop-left.invariant s h
    ∙ numbers_step ((cells_of_state s).heap c.args.object) c.loop-left.at c.loop-left.left c.in-Byte.field-0 c.loop-left-test.true (sym (c.object_cell.ensures s h) ∙ c.in-Byte.is)

pub returns-in_default : goal.returns-in_default
returns-in_default c s h =
    sym (c.loop-left.invariant s h
    ∙ no_numbers ((cells_of_state s).heap c.args.object) c.loop-left.at c.loop-left.left c.loop-left-test.true (λ b e. c.in_default.not-Byte b (c.object_cell.ensures s h ∙ e)))
