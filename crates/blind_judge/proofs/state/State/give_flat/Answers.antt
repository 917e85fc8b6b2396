use Rattle.std.proofs.Common.{◌+◌, length}
use Rattle.infinite_heap.specs.InfiniteState.{InfState, inf_next}
use Rattle.infinite_heap.specs.InfiniteSystem.{as_cells}
use Rattle.infinite_heap.specs.Memory.{put_all}
use Rattle.infinite_heap.specs.declared.value.Value.TheVariants.{Num}
use Rattle.blind_judge.proofs.AnyPlace.{any_place}
use Rattle.blind_judge.proofs.state.State.give_flat.Goals as goal

pub returns-clause-step : goal.returns-clause-step
returns-clause-step c s h =
    let filled : InfState = record s { flat = put_all s.flat c.args.n (as_cells c.args.bytes.now) } in
    any_place c.pass_with.new.self (inf_next filled 10 (Num (length c.args.bytes.now))) (s.place + length c.args.bytes.now) (c.pass_with.ensures.step filled (c.in_ok-fill_flat.ensures.step s h))
