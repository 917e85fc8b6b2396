use Rattle.std.proofs.Common.{◌≡◌}
use Rattle.diefast_canary.specs.Canary.{broken_before}
use Rattle.diefast_canary.proofs.list_breaks.Given as goal

abbrev pub invariant-loop-place : goal.invariant-loop-place
invariant-loop-place l = l.places.items ≡ broken_before l.word l.phase l.bytes l.place
