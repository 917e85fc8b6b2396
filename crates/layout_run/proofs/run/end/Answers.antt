use Rattle.std.proofs.Common.{◌≡◌, cond, sym, ◌∙◌, ap}
use Rattle.exact_heap.specs.Calls.{check_end}
use Rattle.rv_machine.specs.Guest.{heap_of, checked}
use Rattle.rv_machine.specs.declared.stop.Waiting.TheVariants.{Nothing}
use Rattle.layout_run.specs.Imaged.{with_image}
use Rattle.layout_run.specs.Whole.{ran_with}
use Rattle.layout_run.proofs.run.end.Goals as goal

pub returns : goal.returns
returns c = λ g at.
    let ran : c.report-2.result ≡ with_image c.args.image (ran_with c.args.ending g.core.steps (check_end (heap_of g))) = c.report-2.ensures (checked g) (c.check_end.ensures.checks g Nothing at) in
    ran ∙ ap (λ b. with_image c.args.image (ran_with c.args.ending g.core.steps (cond b g.history (check_end (heap_of g))))) (sym c.if-was_stopped.false ∙ c.was_stopped.ensures)
