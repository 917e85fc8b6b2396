use Rattle.layout_run.proofs.Advanced.{advances-are-steps}
use Rattle.layout_run.proofs.step.advances_are_steps.Goals as goal

pub returns : goal.returns
returns c = advances-are-steps c.steps_are_shaped.ensures.guest
