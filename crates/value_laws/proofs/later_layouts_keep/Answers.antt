use Rattle.value_laws.proofs.Later.{later_value, later_memory}
use Rattle.value_laws.proofs.later_layouts_keep.Goals as goal

pub returns : goal.returns
returns c = record { values = later_value; memory = later_memory }
