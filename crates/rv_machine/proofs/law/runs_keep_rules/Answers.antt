use Rattle.rv_machine.proofs.Ran.{runs_keep_rules}
use Rattle.rv_machine.proofs.law.runs_keep_rules.Goals as goal

pub returns : goal.returns
returns c = runs_keep_rules
