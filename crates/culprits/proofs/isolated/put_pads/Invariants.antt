use Rattle.std.proofs.Common.{◌≡◌, drop}
use Rattle.culprits.specs.Isolated.{padded}
use Rattle.culprits.proofs.isolated.put_pads.Given as goal

abbrev pub invariant-loop-found : goal.invariant-loop-found
invariant-loop-found l = padded l.table (drop l.found-index l.past) ≡ padded l.initial.table l.past
