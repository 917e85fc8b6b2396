use Rattle.std.proofs.Common.{arith}
use Rattle.heap_image.specs.Laws.{IsTyped}
use Rattle.heap_image.proofs.Taken.{all_of}
use Rattle.heap_image.proofs.contents.contents_of.Goals as goal

pub returns-clause-typed : goal.returns-clause-typed
returns-clause-typed c = all_of IsTyped c.args.rows.now (λ k d less. c.loop-row.invariant.typed k d (omega (arith, less, c.loop-row-test.false)))
