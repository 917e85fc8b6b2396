-- The four cells of a word.
use Rattle.std.specs.Prelude.{List, [], ◌∷◌}
use Rattle.infinite_heap.specs.declared.value.Cell.{Cell}
use Rattle.infinite_heap.specs.Values.{Cells}
use Rattle.blind_judge.specs.declared.words.Word.{Word}

abbrev pub cells_in : Word → Cells
cells_in w = record { c0 = w.c0; c1 = w.c1; c2 = w.c2; c3 = w.c3 }

abbrev pub cell_list : Word → List Cell
cell_list w = w.c0 ∷ w.c1 ∷ w.c2 ∷ w.c3 ∷ []
