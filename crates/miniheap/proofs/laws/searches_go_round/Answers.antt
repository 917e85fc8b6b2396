use Rattle.std.proofs.Common.{refl}
use Rattle.miniheap.specs.Draws.{next_free}
use Rattle.miniheap.specs.Laws.{SearchesGoRound}
use Rattle.miniheap.proofs.laws.searches_go_round.Goals as goal

worked : SearchesGoRound
unfolding next_free
worked = (refl, refl, refl, refl, refl, refl, refl)

pub returns : goal.returns
returns c = worked
