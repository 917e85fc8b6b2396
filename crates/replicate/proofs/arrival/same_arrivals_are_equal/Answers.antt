use Rattle.replicate.proofs.Voting.{same_is_equal}
use Rattle.replicate.proofs.arrival.same_arrivals_are_equal.Goals as goal

pub returns : goal.returns
returns c = same_is_equal
