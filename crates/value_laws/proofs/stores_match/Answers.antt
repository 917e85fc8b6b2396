use Rattle.value_laws.proofs.Stored.{lowest_stand, pointer_stores, stored_flat, store_matches}
use Rattle.value_laws.proofs.stores_match.Goals as goal

pub returns : goal.returns
returns c = record {
  cells = lowest_stand;
  through_pointers = pointer_stores;
  outside = λ l il m bytes mm x hx cs bs a h. stored_flat l il m bytes mm x a h hx;
  whole = store_matches;
}
