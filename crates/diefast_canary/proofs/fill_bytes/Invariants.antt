use Rattle.diefast_canary.specs.Canary.{IsIntactTo}
use Rattle.diefast_canary.proofs.fill_bytes.Given as goal

abbrev pub invariant-loop-i : goal.invariant-loop-i
invariant-loop-i l = IsIntactTo l.word l.phase l.bytes l.i
