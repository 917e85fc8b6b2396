use Rattle.std.proofs.Common.{sym, subst}
use Rattle.infinite_heap.specs.InfiniteSystem.{inf_write_at}
use Rattle.blind_judge.specs.Flat.{mapping_in}
use Rattle.blind_judge.specs.Patches.{cures_of}
use Rattle.blind_judge.specs.Steps.{StepsAs}
use Rattle.blind_judge.proofs.state.State.write_at.Goals as goal

pub returns-in-Ptr-clause-step : goal.returns-in-Ptr-clause-step
returns-in-Ptr-clause-step c input s h =
    subst (λ v. StepsAs (cures_of c.args.patches.now) input s (inf_write_at (mapping_in c.args.self.now.flat) s c.args.fd v c.args.len) c.write_object.result c.write_object.new.self) (sym c.in-Ptr.is) (c.write_object.ensures.step input s h)
