use Rattle.culprits.specs.declared.found.Dangling.{Dangling}
use Rattle.culprits.specs.declared.found.Overflow.{Overflow}
use Rattle.culprits.specs.declared.found.Underflow.{Underflow}
use Rattle.culprits.proofs.Lists.{rising_is_one}
use Rattle.culprits.proofs.laws.objects_that_rise_are_one_list.Goals as goal

pub returns-clause-overflows : goal.returns-clause-overflows
returns-clause-overflows c = rising_is_one (λ (f : Overflow). f.object)

pub returns-clause-underflows : goal.returns-clause-underflows
returns-clause-underflows c = rising_is_one (λ (f : Underflow). f.object)

pub returns-clause-danglings : goal.returns-clause-danglings
returns-clause-danglings c = rising_is_one (λ (d : Dangling). d.object)
