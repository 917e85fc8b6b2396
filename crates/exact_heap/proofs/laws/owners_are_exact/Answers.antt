use Rattle.exact_heap.proofs.LawsOwned.{owners_own, owners_are_found, others_have_none, none_is_owned, inner_have_none, foreign_have_none}
use Rattle.exact_heap.proofs.laws.owners_are_exact.Goals as goal

pub returns : goal.returns
returns c = record {
  own = owners_own;
  found = owners_are_found c.slot_laws.ensures;
  none = others_have_none;
  not_owned = none_is_owned;
  inner = inner_have_none c.slot_laws.ensures;
  foreign = foreign_have_none;
}
