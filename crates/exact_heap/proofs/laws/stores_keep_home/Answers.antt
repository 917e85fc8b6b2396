use Rattle.exact_heap.proofs.LawsHomes.{stores_keep_home, mapping_keeps_home}
use Rattle.exact_heap.proofs.laws.stores_keep_home.Goals as goal

pub returns : goal.returns
returns c = record { stores = stores_keep_home; mapping = mapping_keeps_home }
