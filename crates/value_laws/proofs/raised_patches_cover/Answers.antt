use Rattle.value_laws.proofs.Raised.{records_stay, runs_stay}
use Rattle.value_laws.proofs.raised_patches_cover.Goals as goal

pub returns : goal.returns
returns c = record { records = records_stay; runs = runs_stay }
