use Rattle.std.proofs.Common.{arith}
use Rattle.blind_judge.specs.HeapCells.{CopiesFirst}
use Rattle.blind_judge.proofs.Copied.{copied_more, copied_same, on_err}
use Rattle.blind_judge.proofs.heap_cells.HeapCells.copy.Goals as goal

pub loop-at-preserved : goal.loop-at-preserved
loop-at-preserved c = record {
  first =
      copied_more c.args.self.now c.loop-at.self c.copy_in_page.new.self c.args.from c.args.to c.args.begins c.loop-at.at c.min-piece.result
      (c.loop-at.invariant.start c.loop-at-test.true) (omega arith) (omega (arith, c.ranges.count.fits)) c.loop-at.invariant.first c.in_ok-copy_in_page.ensures.copied;
  start = λ less. (omega (arith, c.loop-at.invariant.start c.loop-at-test.true));
  within = omega arith;
}

pub returns-in_err-copy_in_page-clause-refused : goal.returns-in_err-copy_in_page-clause-refused
returns-in_err-copy_in_page-clause-refused c =
    let partly : CopiesFirst c.args.self.now c.copy_in_page.new.self c.args.from c.args.to c.args.begins c.loop-at.at =
    copied_same c.args.self.now c.loop-at.self c.copy_in_page.new.self c.args.from c.args.to c.args.begins c.loop-at.at
    c.in_err-copy_in_page.ensures.refused c.in_err-copy_in_page.ensures.counted c.loop-at.invariant.first in
    on_err c.from_residual.result (c.loop-at.at, partly)
