-- What the order of deferred frees says.
use Rattle.std.proofs.Common.{◌≡◌, false, arith}
use Rattle.std.proofs.lemmas.Bool.Decides.{nat_tests}
use Rattle.deferral_queue.specs.declared.Due.{Due}
use Rattle.deferral_queue.specs.Order.{is_before, IsNoLater}

pub no_later_from_before : (a b : Due) → is_before b a ≡ false → IsNoLater a b
unfolding is_before
no_later_from_before a b e = grind (arith, nat_tests)

pub before_irrefl : (a : Due) → is_before a a ≡ false
unfolding is_before
before_irrefl a = grind (arith, nat_tests)
