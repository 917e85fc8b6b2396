use Rattle.value_laws.proofs.Lifted.{lift_stands}
use Rattle.value_laws.proofs.lift_is_sound.Goals as goal

pub returns : goal.returns
returns c = lift_stands
