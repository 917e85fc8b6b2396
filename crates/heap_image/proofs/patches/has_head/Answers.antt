use Rattle.std.proofs.lemmas.Bool.Decides.{Decides-eqb}
use Rattle.std.proofs.lemmas.Slice.Eq.{starts_is}
use Rattle.heap_image.specs.declared.patches.TheConstants.{HEAD_ONE, HEAD_TWO}
use Rattle.heap_image.proofs.patches.has_head.Goals as goal

pub returns-in-One-clause-begins : goal.returns-in-One-clause-begins
returns-in-One-clause-begins c = rw c.in-One.is (starts_is Decides-eqb c.args.text.now HEAD_ONE c.starts_with.result c.starts_with.ensures.value).0

pub returns-in-One-clause-all : goal.returns-in-One-clause-all
returns-in-One-clause-all c = rw c.in-One.is (starts_is Decides-eqb c.args.text.now HEAD_ONE c.starts_with.result c.starts_with.ensures.value).1

pub returns-in-Two-clause-begins : goal.returns-in-Two-clause-begins
returns-in-Two-clause-begins c = rw c.in-Two.is (starts_is Decides-eqb c.args.text.now HEAD_TWO c.starts_with-in-Two.result c.starts_with-in-Two.ensures.value).0

pub returns-in-Two-clause-all : goal.returns-in-Two-clause-all
returns-in-Two-clause-all c = rw c.in-Two.is (starts_is Decides-eqb c.args.text.now HEAD_TWO c.starts_with-in-Two.result c.starts_with-in-Two.ensures.value).1
