use Rattle.std.proofs.Common.{◌-◌, ◌∙◌, sym, arith}
use Rattle.std.proofs.lemmas.Nat.{one_shl}
use Rattle.size_class.specs.Laws.{first_low, first_high}
use Rattle.size_class.proofs.first_slots.Goals as goal

pub returns-then-class-lt14 : goal.returns-then-class-lt14
returns-then-class-lt14 c = one_shl (16 - c.args.class) 32 (omega arith) ∙ sym (first_low c.args.class (omega arith))

pub returns-else-class-lt14 : goal.returns-else-class-lt14
returns-else-class-lt14 c = sym (first_high c.args.class (omega arith))
