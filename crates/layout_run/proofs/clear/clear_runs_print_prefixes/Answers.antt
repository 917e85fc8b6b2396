use Rattle.layout_run.proofs.ClearedRuns.{prefixes}
use Rattle.layout_run.proofs.clear.clear_runs_print_prefixes.Goals as goal

pub returns : goal.returns
returns c = prefixes c.clear_runs_match.ensures c.unstopped_runs_are_flat_runs.ensures
