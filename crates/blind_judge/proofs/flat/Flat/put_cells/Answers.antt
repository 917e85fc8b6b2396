use Rattle.std.proofs.Common.{ap, ◌∙◌}
use Rattle.infinite_heap.specs.Memory.{next, put}
use Rattle.infinite_heap.specs.Values.{Cells}
use Rattle.blind_judge.specs.Flat.{flat_of}
use Rattle.blind_judge.proofs.FlatPut.{mapped_ok}
use Rattle.blind_judge.proofs.flat.Flat.put_cells.Goals as goal

pub returns-clause-stored : goal.returns-clause-stored
returns-clause-stored c =
    let w = c.cells_of-w.result in
    let x = c.args.x in
    let f = flat_of c.args.self.now in
    mapped_ok c.put_pair-2.result c.put_pair-2.ensures.stored (λ e. e
    ∙ ap (λ g. put (put g (next (next x)) w.c2) (next (next (next x))) w.c3) c.in_ok-put_pair.ensures.stored
    ∙ ap (λ (k : Cells). put (put (put (put f x k.c0) (next x) k.c1) (next (next x)) k.c2) (next (next (next x))) k.c3) c.cells_of-w.ensures)
