use Rattle.std.proofs.Common.{refl}
use Rattle.worked_cases.proofs.equalities_are_decided.Goals as goal

pub returns : goal.returns
returns c = record {
  one_object = (refl, refl, refl, refl, refl, refl, refl);
  two_objects = (refl, refl, refl, refl, refl);
  pointer_and_number = (refl, refl, refl, refl, refl, refl, refl, refl, refl, refl, refl);
  others = (refl, refl, refl, refl, refl);
}
