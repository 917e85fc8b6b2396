-- A run that is stopped nowhere makes each of its steps.
use Rattle.std.proofs.Common.{zero, suc, refl, ap}
use Rattle.rv_machine.specs.Flat.{flat_step, flat_steps}
use Rattle.layout_run.specs.Unstopped.{UnstoppedRunsAreFlatRuns}
use Rattle.layout_run.specs.Whole.{run_until}

pub unstopped : UnstoppedRunsAreFlatRuns
unfolding run_until flat_steps
unstopped program args settings input zero = refl
unstopped program args settings input (suc n) = ap (flat_step input) (unstopped program args settings input n)
