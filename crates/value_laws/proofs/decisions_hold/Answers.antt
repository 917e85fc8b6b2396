use Rattle.value_laws.proofs.LowBits.{below_stands, below_signed_stands}
use Rattle.value_laws.proofs.Decided.{same_holds}
use Rattle.value_laws.proofs.decisions_hold.Goals as goal

pub returns : goal.returns
returns c = record { unsigned = below_stands; signed = below_signed_stands; equal = same_holds }
