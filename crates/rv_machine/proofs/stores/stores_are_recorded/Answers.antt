use Rattle.rv_machine.proofs.Stored.{stores_are_recorded}
use Rattle.rv_machine.proofs.stores.stores_are_recorded.Goals as goal

pub returns : goal.returns
returns c = stores_are_recorded c.laws_below.ensures
