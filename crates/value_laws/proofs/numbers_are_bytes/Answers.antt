use Rattle.value_laws.proofs.Stored.{numbers_stand, numbers_are_bytes}
use Rattle.value_laws.proofs.numbers_are_bytes.Goals as goal

pub returns : goal.returns
returns c = record { stand = numbers_stand; alone = numbers_are_bytes }
