use Rattle.std.proofs.Common.{subst}
use Rattle.infinite_heap.specs.InfiniteStep.{inf_store}
use Rattle.blind_judge.specs.Flat.{mapping_in}
use Rattle.blind_judge.specs.Patches.{cures_of}
use Rattle.blind_judge.specs.Steps.{StepsAs}
use Rattle.infinite_heap.specs.Lift.{lift}
use Rattle.infinite_heap.specs.Objects.{alignment_in}
use Rattle.infinite_heap.specs.declared.instr.Operation.TheVariants.{Add}
use Rattle.infinite_heap.specs.declared.value.Value.TheVariants.{Num}
use Rattle.blind_judge.proofs.state.State.do_store.Goals as goal

pub returns-clause-step : goal.returns-clause-step
returns-clause-step c input s h =
    subst (λ x. StepsAs (cures_of c.args.patches.now) input s (inf_store (mapping_in c.args.self.now.flat) s c.args.op x (lift (alignment_in s.objects) Add (s.regs c.args.rs1) (Num c.args.word))) c.store.result c.store.new.self) (c.register-v.ensures.same s h)
    (subst (λ v. StepsAs (cures_of c.args.patches.now) input s (inf_store (mapping_in c.args.self.now.flat) s c.args.op c.register-v.result v) c.store.result c.store.new.self) (c.address-at.ensures s h) (c.store.ensures.step input s h))
