use Rattle.std.proofs.Common.{List, subst, sym}
use Rattle.std.specs.List.{AllByRecursion}
use Rattle.culprits.specs.declared.found.Overflow.{Overflow}
use Rattle.culprits.specs.declared.found.Underflow.{Underflow}
use Rattle.culprits.specs.Isolated.{IsBefore, IsPast}
use Rattle.replicate.proofs.isolated.isolated_at.Goals as goal

pub patches_for-requires-clause-past : goal.patches_for-requires-clause-past
patches_for-requires-clause-past c = subst (λ (found : List Overflow). AllByRecursion IsPast found) (sym c.deref.ensures.value) (c.found_is_in_reach.ensures.overflows c.args.images.now c.in-Ok.found.overflows.items c.in-Ok.ensures.0 c.in-Ok.ensures.1)

pub patches_for-requires-clause-before : goal.patches_for-requires-clause-before
patches_for-requires-clause-before c = subst (λ (found : List Underflow). AllByRecursion IsBefore found) (sym c.deref-2.ensures.value) (c.found_is_in_reach.ensures.underflows c.args.images.now c.in-Ok.found.underflows.items c.in-Ok.ensures.2)
