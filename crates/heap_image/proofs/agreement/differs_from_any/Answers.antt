use Rattle.std.proofs.Common.{sym, subst}
use Rattle.std.proofs.lemmas.List.Elements.{All-more}
use Rattle.std.proofs.lemmas.List.{take_all}
use Rattle.std.specs.List.{All}
use Rattle.heap_image.specs.Snapshot.{Snapshot}
use Rattle.heap_image.specs.Agreement.{AreAlike}
use Rattle.heap_image.proofs.agreement.differs_from_any.Goals as goal

pub returns-then-not-are_alike-clause-differs : goal.returns-then-not-are_alike-clause-differs
returns-then-not-are_alike-clause-differs c = (c.loop-earlier.earlier-index, c.earlier-item.result, c.loop-earlier-test.true, sym c.earlier-item.is, c.if-not-are_alike.ensures.differ)

pub loop-earlier-preserved : goal.loop-earlier-preserved
loop-earlier-preserved c =
    All-more (λ (s : Snapshot). AreAlike s c.args.image.now) c.args.images.now c.loop-earlier.earlier-index c.earlier-item.result c.loop-earlier-test.true c.loop-earlier.invariant
    (subst (λ (s : Snapshot). AreAlike s c.args.image.now) c.earlier-item.is c.if-not-are_alike.ensures.alike)

pub returns-clause-alike : goal.returns-clause-alike
returns-clause-alike c = subst (All (λ (s : Snapshot). AreAlike s c.args.image.now)) (take_all c.loop-earlier.earlier-index c.args.images.now c.loop-earlier-test.false) c.loop-earlier.invariant
