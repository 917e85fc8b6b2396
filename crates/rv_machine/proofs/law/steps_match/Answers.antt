use Rattle.rv_machine.proofs.Matched.{step_matches}
use Rattle.rv_machine.proofs.law.steps_match.Goals as goal

pub returns : goal.returns
returns c = step_matches c.laws_below.ensures
