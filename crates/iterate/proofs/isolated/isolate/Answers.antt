use Rattle.std.proofs.Common.{List, subst, sym}
use Rattle.std.specs.List.{AllByRecursion}
use Rattle.culprits.specs.declared.found.Overflow.{Overflow}
use Rattle.culprits.specs.declared.found.Underflow.{Underflow}
use Rattle.culprits.specs.Isolated.{IsBefore, IsPast}
use Rattle.iterate.proofs.Found.{is_isolated}
use Rattle.iterate.proofs.isolated.isolate.Goals as goal

pub patches_for-requires-clause-past : goal.patches_for-requires-clause-past
patches_for-requires-clause-past c = subst (λ (found : List Overflow). AllByRecursion IsPast found) (sym c.deref.ensures.value) (c.found_is_in_reach.ensures.overflows c.args.images.now c.in-Ok.found.overflows.items c.in-Ok.ensures.0 c.in-Ok.ensures.1)

pub patches_for-requires-clause-before : goal.patches_for-requires-clause-before
patches_for-requires-clause-before c = subst (λ (found : List Underflow). AllByRecursion IsBefore found) (sym c.deref-2.ensures.value) (c.found_is_in_reach.ensures.underflows c.args.images.now c.in-Ok.found.underflows.items c.in-Ok.ensures.2)

pub returns-in-Ok-patches_for : goal.returns-in-Ok-patches_for
returns-in-Ok-patches_for c =
    is_isolated c.args.images.now c.args.old.now c.in-Ok.found.overflows.items c.in-Ok.found.underflows.items c.in-Ok-danglings.found.items c.deref.result.now c.deref-2.result.now c.deref-3.result.now c.in-Ok-patches_for.isolated
    c.in-Ok.ensures.0 c.in-Ok.ensures.1 c.in-Ok.ensures.2 c.in-Ok-danglings.ensures.1 c.deref.ensures.value c.deref-2.ensures.value c.deref-3.ensures.value c.in-Ok-patches_for.ensures
