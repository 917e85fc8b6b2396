use Rattle.value_laws.proofs.Stored.{pointer_loads, loaded_flat, loaded_stands}
use Rattle.value_laws.proofs.loads_stand.Goals as goal

pub returns : goal.returns
returns c = record {
  through_pointers = pointer_loads;
  outside = loaded_flat;
  values = λ l t cs bs a. loaded_stands l t a;
  whole = λ l m bytes mm o d a n p h t. (loaded_stands l t (pointer_loads l m bytes mm o d a n p h)).0;
}
