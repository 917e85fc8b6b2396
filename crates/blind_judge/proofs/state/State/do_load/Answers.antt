use Rattle.std.proofs.Common.{subst}
use Rattle.infinite_heap.specs.InfiniteStep.{inf_load}
use Rattle.blind_judge.specs.Flat.{mapping_in}
use Rattle.blind_judge.specs.Patches.{cures_of}
use Rattle.blind_judge.specs.Steps.{StepsAs}
use Rattle.blind_judge.proofs.state.State.do_load.Goals as goal

pub returns-clause-step : goal.returns-clause-step
returns-clause-step c input s h =
    subst (λ v. StepsAs (cures_of c.args.patches.now) input s (inf_load (mapping_in c.args.self.now.flat) s c.args.op c.args.rd v) c.load.result c.load.new.self) (c.address-at.ensures s h) (c.load.ensures.step input s h)
