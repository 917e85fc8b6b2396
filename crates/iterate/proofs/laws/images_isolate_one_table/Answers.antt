use Rattle.iterate.proofs.Found.{isolates_one}
use Rattle.iterate.proofs.laws.images_isolate_one_table.Goals as goal

pub returns : goal.returns
returns c = isolates_one c.images_have_one_list.ensures c.images_have_one_list-2.ensures c.objects_call_for_one_table.ensures
