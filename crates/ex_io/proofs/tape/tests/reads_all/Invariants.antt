use Rattle.std.proofs.Common.{◌≡◌, false}
use Rattle.ex_io.proofs.tape.tests.reads_all.Given as goal

abbrev pub invariant-loop-place : goal.invariant-loop-place
invariant-loop-place g l = (l.tape.refused ≡ false) × (l.tape.high ≡ l.high) × (l.tape.keep ≡ l.keep)
