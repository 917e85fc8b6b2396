use Rattle.std.proofs.Common.{◌≡◌, drop}
use Rattle.culprits.specs.Isolated.{fronted}
use Rattle.culprits.proofs.isolated.put_fronts.Given as goal

abbrev pub invariant-loop-found : goal.invariant-loop-found
invariant-loop-found l = fronted l.table (drop l.found-index l.before) ≡ fronted l.initial.table l.before
