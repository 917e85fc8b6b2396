use Rattle.std.proofs.Common.{◌≡◌}
use Rattle.work_maker.specs.Program.{IsBefore}
use Rattle.work_maker.specs.Draws.{stream_after, word_in}
use Rattle.work_maker.proofs.program.Maker.with_turns.Given as goal

abbrev pub invariant-loop-j : goal.invariant-loop-j
invariant-loop-j g l = record {
  before : IsBefore (word_in (g.R.Rng.stream l.fn.draws)) l.j l.maker.code.items l.maker.full;
  left : g.R.Rng.stream l.draws ≡ stream_after (g.R.Rng.stream l.fn.draws) l.j;
}
