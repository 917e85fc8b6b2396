use Rattle.std.proofs.Common.{refl}
use Rattle.worked_cases.proofs.orders_are_decided.Goals as goal

pub returns : goal.returns
returns c = record {
  pointers = (refl, refl, refl, refl, refl, refl);
  pointers_signed = (refl, refl, refl, refl, refl, refl);
  numbers = (refl, refl, refl, refl, refl, refl, refl, refl);
  numbers_signed = (refl, refl, refl, refl, refl, refl, refl, refl);
  undecided = ((refl, refl), (refl, refl), (refl, refl), (refl, refl), (refl, refl), (refl, refl), (refl, refl), (refl, refl), (refl, refl), (refl, refl), (refl, refl));
}
