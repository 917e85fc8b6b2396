use Rattle.std.proofs.Common.{◌≡◌, Ok, sym, ◌∙◌, ap, subst}
use Rattle.rv_machine.specs.Core.{Reads}
use Rattle.rv_machine.specs.Stands.{Gives}
use Rattle.rv_machine.specs.Steps.{next}
use Rattle.layout_run.specs.Advances.{AreNext}
use Rattle.layout_run.specs.Turns.{Gets}
use Rattle.layout_run.proofs.step.read.Goals as goal

pub returns-in-Ok-give-clause-gets : goal.returns-in-Ok-give-clause-gets
returns-in-Ok-give-clause-gets g c g' at =
    let is : next g'.core ≡ Reads c.args.addr c.args.len = sym (ap next at.core) ∙ c.requires.asks in
    let gives = subst (λ n. Gives g' n c.as_slice.result.now (Ok tt) c.give.new.self) is (c.in-Ok-give.ensures.gives g' at) in
    subst (λ n. Gets g' n (Ok c.len.result) c.give.new.self c.args.tape.now (g.S.Source.left c.args.input.now) c.args.place) (sym is)
    (c.as_slice.result.now, c.len.ensures ∙ sym c.as_slice.ensures.len, gives, subst (λ bytes. AreNext bytes c.args.tape.now (g.S.Source.left c.args.input.now) c.args.place c.args.len) (sym c.as_slice.ensures.value) c.in-Ok.ensures.bytes)
