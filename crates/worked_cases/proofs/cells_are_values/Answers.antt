use Rattle.std.proofs.Common.{refl}
use Rattle.worked_cases.proofs.cells_are_values.Goals as goal

pub returns : goal.returns
returns c = record {
  joined = (refl, refl, refl, refl, refl, refl, refl);
  low_parts = (refl, refl, refl, refl, refl, refl, refl);
  loaded = (refl, refl, refl, refl, refl, refl, refl, refl, refl, refl, refl);
  stored = (refl, refl, refl, refl, refl, refl);
  counted = (refl, refl, refl, refl, refl, refl, refl);
}
