use Rattle.std.proofs.Common.{◌≡◌, ◌++◌, ℕ, List, drop, map}
use Rattle.replicate.specs.Gates.{image_of, winners}
use Rattle.replicate.specs.GroupStands.{HaveTag}
use Rattle.replicate.specs.Replicas.{Replica}
use Rattle.replicate.specs.Standings.{SeatsAre}
use Rattle.replicate.specs.Votes.{vote_of}
use Rattle.replicate.proofs.opened.images_of.Given as goal

abbrev pub invariant-loop-i : goal.invariant-loop-i
invariant-loop-i l = (budget tag : ℕ) (rs : List Replica) → SeatsAre budget rs l.seats → HaveTag tag l.seats → l.votes ≡ map (vote_of budget) rs
    → l.images.items ++ map (image_of tag) (winners budget l.winner (drop l.i rs)) ≡ map (image_of tag) (winners budget l.winner rs)
