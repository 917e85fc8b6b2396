use Rattle.std.proofs.Common.{◌≡◌, drop}
use Rattle.culprits.specs.Isolated.{deferred}
use Rattle.culprits.proofs.isolated.put_defers.Given as goal

abbrev pub invariant-loop-found : goal.invariant-loop-found
invariant-loop-found l = deferred l.table (drop l.found-index l.late) ≡ deferred l.initial.table l.late
