use Rattle.culprits.proofs.Joined.{joins_one}
use Rattle.culprits.proofs.laws.objects_call_for_one_table.Goals as goal

pub returns : goal.returns
returns c = joins_one
