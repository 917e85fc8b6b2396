use Rattle.std.proofs.Common.{sym, subst}
use Rattle.infinite_heap.specs.InfiniteStep.{inf_load}
use Rattle.blind_judge.specs.Flat.{mapping_in}
use Rattle.blind_judge.specs.Patches.{cures_of}
use Rattle.blind_judge.specs.Steps.{StepsAs}
use Rattle.blind_judge.proofs.state.State.load.Goals as goal

pub returns-in-Ptr-clause-step : goal.returns-in-Ptr-clause-step
returns-in-Ptr-clause-step c input s h =
    subst (λ v. StepsAs (cures_of c.args.patches.now) input s (inf_load (mapping_in c.args.self.now.flat) s c.args.op c.args.rd v) c.load_object.result c.load_object.new.self) (sym c.in-Ptr.is) (c.load_object.ensures.step input s h)
