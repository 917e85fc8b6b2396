use Rattle.std.proofs.Common.{IsSome, ◌∙◌, refl, sym, subst}
use Rattle.rv_machine.specs.Stands.{guest_in, Steps}
use Rattle.rv_machine.proofs.Carried.{stepped, called-next}
use Rattle.rv_machine.proofs.machine.Machine.step.Goals as goal

pub returns-in-Some-clause-step : goal.returns-in-Some-clause-step
returns-in-Some-clause-step c = stepped c.args.self.now c.heap_call.new.self c.heap_call.result (λ sound h stands.
    let old = c.args.self.now in
    let ready = c.called.ensures.some (subst (λ r. IsSome r) (sym c.in-Some.is) refl) in
    subst (λ n. Steps (guest_in old h) n c.heap_call.result c.heap_call.new.self)
    (called-next (guest_in old h) c.in-Some.function ready.1 (sym (c.called.ensures.call ready.0 ready.1) ∙ c.in-Some.is))
    (c.heap_call.ensures.step h stands))
