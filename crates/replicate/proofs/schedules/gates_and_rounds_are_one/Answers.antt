use Rattle.replicate.proofs.Gating.{gates-one, rounds-one}
use Rattle.replicate.proofs.schedules.gates_and_rounds_are_one.Goals as goal

pub returns-clause-gates : goal.returns-clause-gates
returns-clause-gates c = gates-one c.images_have_one_list.ensures c.images_have_one_list-2.ensures c.objects_call_for_one_table.ensures

pub returns-clause-rounds : goal.returns-clause-rounds
returns-clause-rounds c = rounds-one c.images_have_one_list.ensures c.images_have_one_list-2.ensures c.objects_call_for_one_table.ensures
