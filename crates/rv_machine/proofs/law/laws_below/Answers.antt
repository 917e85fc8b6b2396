use Rattle.rv_machine.proofs.law.laws_below.Goals as goal

pub returns : goal.returns
returns c = record {
  words = c.operations_give_words.ensures;
  lift = c.lift_is_sound.ensures;
  unsigned = c.decisions_hold.ensures.unsigned;
  signed = c.decisions_hold.ensures.signed;
  equal = c.decisions_hold.ensures.equal;
  cells = c.stores_match.ensures.cells;
  numbers = c.numbers_are_bytes.ensures.stand;
  loaded = c.loads_stand.ensures.values;
  pointer_loads = c.loads_stand.ensures.through_pointers;
  outside_loads = c.loads_stand.ensures.outside;
  pointer_stores = c.stores_match.ensures.through_pointers;
  outside_stores = c.stores_match.ensures.outside;
  store = c.stores_match.ensures.whole;
  whole = c.places_go_on.ensures.whole;
  along = c.places_go_on.ensures.along;
  region = c.places_go_on.ensures.held;
  rows = c.rows_are_in_range.ensures;
}
