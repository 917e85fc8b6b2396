use Rattle.std.proofs.Common.{nat_eq, ℕ, ap}
use Rattle.std.proofs.lemmas.Nat.Bits.{shr_and_one}
use Rattle.miniheap.proofs.states.is_set.Goals as goal

pub returns : goal.returns
returns c = ap (λ (x : ℕ). nat_eq x 1) (shr_and_one c.args.word c.args.bit)
