use Rattle.std.proofs.Common.{◌≡◌, false, slice_index_or}
use Rattle.work_maker.specs.Program.{before_place}
use Rattle.work_maker.proofs.program.Maker.free_all.Given as goal

abbrev pub invariant-loop-k : goal.invariant-loop-k
invariant-loop-k l = record {
  code : l.self.code.items ≡ before_place (λ k. slice_index_or l.fn.self.full k false) l.fn.self.code.items l.k;
  full : l.self.full ≡ l.fn.self.full;
}
