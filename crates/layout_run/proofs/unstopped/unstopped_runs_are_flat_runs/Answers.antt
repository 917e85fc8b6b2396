use Rattle.layout_run.proofs.Whole.{unstopped}
use Rattle.layout_run.proofs.unstopped.unstopped_runs_are_flat_runs.Goals as goal

pub returns : goal.returns
returns c = unstopped
