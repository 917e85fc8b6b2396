use Rattle.rv_machine.proofs.Shaped.{shaped, guest-shaped}
use Rattle.rv_machine.proofs.shape.steps_are_shaped.Goals as goal

pub returns : goal.returns
returns c = record { core = shaped; guest = guest-shaped }
