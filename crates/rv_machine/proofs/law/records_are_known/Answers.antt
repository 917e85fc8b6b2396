use Rattle.rv_machine.proofs.Known.{records_are_known}
use Rattle.rv_machine.proofs.law.records_are_known.Goals as goal

pub returns : goal.returns
returns c = records_are_known c.laws_below.ensures
