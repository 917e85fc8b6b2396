use Rattle.size_class.specs.Laws.{slots_divide, pow_more, first_low, first_high, first_bytes}
use Rattle.size_class.proofs.slots_are_powers.Goals as goal

pub returns : goal.returns
returns c = record { divide = slots_divide; rise = pow_more; first_below = first_low; first_above = first_high; first_bytes = first_bytes }
