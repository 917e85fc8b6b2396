use Rattle.std.proofs.Common.{ap, sym, ◌∙◌}
use Rattle.infinite_heap.specs.Memory.{cells_from, put_all}
use Rattle.infinite_heap.specs.Values.{byte}
use Rattle.blind_judge.specs.FlatBytes.{byte_in}
use Rattle.blind_judge.specs.FlatCells.{odd_in}
use Rattle.blind_judge.proofs.FlatPut.{flat_by, mapped_ok, plain_word}
use Rattle.blind_judge.proofs.flat.Flat.put_word.Goals as goal

pub returns-in-Some-clause-stored : goal.returns-in-Some-clause-stored
returns-in-Some-clause-stored c =
    let old = c.args.self.now in
    let w = c.in-Some.word in
    mapped_ok c.put_word.result c.put_word.ensures (λ e. ap (flat_by (odd_in old.cells)) e
    ∙ plain_word (odd_in old.cells) (byte_in old.bytes) c.args.x (byte 0 w) (byte 1 w) (byte 2 w) (byte 3 w) c.ranges.x.fits c.in-Some.ensures.whole c.in-Some.ensures.plain
    ∙ ap (λ v. put_all (flat_by (odd_in old.cells) (byte_in old.bytes)) c.args.x (cells_from 4 v)) (sym c.in-Some.ensures.number))
