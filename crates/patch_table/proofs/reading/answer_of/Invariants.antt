use Rattle.std.proofs.Common.{◌+◌, ◌≤◌, length}
use Rattle.patch_table.proofs.SoFar.{IsSoFar}
use Rattle.patch_table.proofs.reading.answer_of.Given as goal

abbrev pub invariant-loop-rest : goal.invariant-loop-rest
invariant-loop-rest l = record {
  so_far : IsSoFar l.version l.text l.patches l.n l.rest;
  small : l.n + length l.rest ≤ length l.text;
}

abbrev pub decreases-loop-rest : goal.decreases-loop-rest
decreases-loop-rest l = length l.rest
