use Rattle.std.proofs.Common.{◌≡◌, subst}
use Rattle.std.specs.Prelude.{IsSomeAnd}
use Rattle.std.proofs.lemmas.List.Elements.{All-more}
use Rattle.heap_image.specs.Snapshot.{Snapshot}
use Rattle.heap_image.specs.Agreement.{row_of, allocation_of}
use Rattle.overflow_isolator.specs.Windows.{IsWindowOf}
use Rattle.overflow_isolator.proofs.Apart.{nothing_shared}
use Rattle.overflow_isolator.proofs.Windows.{zip_more}
use Rattle.overflow_isolator.proofs.agreed.windows_beside.Goals as goal

pub returns-in-None : goal.returns-in-None
returns-in-None c =
    nothing_shared c.args.images.now c.args.object c.args.gap c.loop-image.image-index (allocation_of c.args.row.now) c.image-item.result c.args.first.now c.requires.some c.requires.first c.loop-image-test.true c.image-item.is c.in-None.ensures

pub loop-image-preserved : goal.loop-image-preserved
loop-image-preserved c = record {
  agreed = All-more (λ (s : Snapshot). IsSomeAnd (row_of c.args.object s) (λ r. allocation_of r ≡ allocation_of c.args.row.now)) c.args.images.now c.loop-image.image-index c.image-item.result c.loop-image-test.true c.loop-image.invariant.agreed
      (subst (λ (s : Snapshot). IsSomeAnd (row_of c.args.object s) (λ r. allocation_of r ≡ allocation_of c.args.row.now)) c.image-item.is c.in-Some.ensures.0);
  zipped = rw c.in_ok-push-in-Some.ensures.items (zip_more (IsWindowOf c.args.object c.args.gap) c.args.images.now c.loop-image.windows.items c.loop-image.image-index c.image-item.result c.in-Some.window c.loop-image-test.true c.image-item.is c.loop-image.invariant.zipped c.in-Some.ensures.1);
}
