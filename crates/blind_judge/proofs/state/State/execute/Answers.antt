use Rattle.std.proofs.Common.{◌+◌, ◌%◌, ◌^◌, sym, subst, [], rules}
use Rattle.std.proofs.lemmas.Int.{ints}
use Rattle.infinite_heap.specs.InfiniteStep.{decide, inf_branch, inf_do, inf_jalr, inf_jump, inf_load, inf_operate, inf_store}
use Rattle.blind_judge.specs.Flat.{mapping_in}
use Rattle.blind_judge.specs.Patches.{cures_of}
use Rattle.blind_judge.specs.Steps.{StepsAs}
use Rattle.infinite_heap.specs.Calls.{after_jal}
use Rattle.infinite_heap.specs.InfiniteState.{after, set_reg}
use Rattle.infinite_heap.specs.Lift.{lift}
use Rattle.infinite_heap.specs.Objects.{alignment_in, size_in}
use Rattle.infinite_heap.specs.Operations.{operation_of}
use Rattle.infinite_heap.specs.declared.instr.Operation.TheVariants.{Add}
use Rattle.infinite_heap.specs.declared.value.Value.TheVariants.{Num}
use Rattle.blind_judge.proofs.state.State.execute.Goals as goal

pub returns-in-AluImm-clause-step : goal.returns-in-AluImm-clause-step
returns-in-AluImm-clause-step c input s h =
    subst (λ i. StepsAs (cures_of c.args.patches.now) input s (inf_do (mapping_in c.args.self.now.flat) input s i) c.do_immediate.result c.do_immediate.new.self) (sym c.in-AluImm.is)
    (subst (λ w. StepsAs (cures_of c.args.patches.now) input s (inf_operate s c.in-AluImm.rd (operation_of c.in-AluImm.op) (s.regs c.in-AluImm.rs1) (Num w)) c.do_immediate.result c.do_immediate.new.self) (search (rules, ints)) (c.do_immediate.ensures.step (cures_of c.args.patches.now) input s h))

pub returns-in-Jal-clause-step : goal.returns-in-Jal-clause-step
returns-in-Jal-clause-step c input s h =
    subst (λ i. StepsAs (cures_of c.args.patches.now) input s (inf_do (mapping_in c.args.self.now.flat) input s i) c.do_jal.result c.do_jal.new.self) (sym c.in-Jal.is)
    (subst (λ w. StepsAs (cures_of c.args.patches.now) input s (inf_jump (record s { regs = set_reg s.regs c.in-Jal.rd (Num (after s.pc)); calls = after_jal c.in-Jal.rd (after s.pc) s.calls }) ((s.pc + w) % 2 ^ 32) []) c.do_jal.result c.do_jal.new.self) (search (rules, ints)) (c.do_jal.ensures.step (cures_of c.args.patches.now) input s h))

pub returns-in-Jalr-clause-step : goal.returns-in-Jalr-clause-step
returns-in-Jalr-clause-step c input s h =
    subst (λ i. StepsAs (cures_of c.args.patches.now) input s (inf_do (mapping_in c.args.self.now.flat) input s i) c.do_jalr.result c.do_jalr.new.self) (sym c.in-Jalr.is)
    (subst (λ w. StepsAs (cures_of c.args.patches.now) input s (inf_jalr s c.in-Jalr.rd c.in-Jalr.rs1 (lift (alignment_in s.objects) Add (s.regs c.in-Jalr.rs1) (Num w))) c.do_jalr.result c.do_jalr.new.self) (search (rules, ints)) (c.do_jalr.ensures.step (cures_of c.args.patches.now) input s h))

pub returns-in-Branch-clause-step : goal.returns-in-Branch-clause-step
returns-in-Branch-clause-step c input s h =
    subst (λ i. StepsAs (cures_of c.args.patches.now) input s (inf_do (mapping_in c.args.self.now.flat) input s i) c.do_branch.result c.do_branch.new.self) (sym c.in-Branch.is)
    (subst (λ w. StepsAs (cures_of c.args.patches.now) input s (inf_branch s w (decide (size_in s.objects) c.in-Branch.op (s.regs c.in-Branch.rs1) (s.regs c.in-Branch.rs2))) c.do_branch.result c.do_branch.new.self) (search (rules, ints)) (c.do_branch.ensures.step input s h))

pub returns-in-Load-clause-step : goal.returns-in-Load-clause-step
returns-in-Load-clause-step c input s h =
    subst (λ i. StepsAs (cures_of c.args.patches.now) input s (inf_do (mapping_in c.args.self.now.flat) input s i) c.do_load.result c.do_load.new.self) (sym c.in-Load.is)
    (subst (λ w. StepsAs (cures_of c.args.patches.now) input s (inf_load (mapping_in c.args.self.now.flat) s c.in-Load.op c.in-Load.rd (lift (alignment_in s.objects) Add (s.regs c.in-Load.rs1) (Num w))) c.do_load.result c.do_load.new.self) (search (rules, ints)) (c.do_load.ensures.step input s h))

pub returns-in-Store-clause-step : goal.returns-in-Store-clause-step
returns-in-Store-clause-step c input s h =
    subst (λ i. StepsAs (cures_of c.args.patches.now) input s (inf_do (mapping_in c.args.self.now.flat) input s i) c.do_store.result c.do_store.new.self) (sym c.in-Store.is)
    (subst (λ w. StepsAs (cures_of c.args.patches.now) input s (inf_store (mapping_in c.args.self.now.flat) s c.in-Store.op (s.regs c.in-Store.rs2) (lift (alignment_in s.objects) Add (s.regs c.in-Store.rs1) (Num w))) c.do_store.result c.do_store.new.self) (search (rules, ints)) (c.do_store.ensures.step input s h))
