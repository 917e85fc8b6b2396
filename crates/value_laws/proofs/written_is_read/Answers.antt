use Rattle.value_laws.proofs.Stored.{others_stay, read_back}
use Rattle.value_laws.proofs.written_is_read.Goals as goal

pub returns : goal.returns
returns c = record { written = read_back; others = others_stay }
