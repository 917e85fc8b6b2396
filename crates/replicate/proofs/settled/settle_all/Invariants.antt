use Rattle.std.proofs.Common.{◌≡◌, ℕ, List, false, map}
use Rattle.std.specs.List.{AllByRecursion}
use Rattle.patch_table.specs.Table.{IsBelow, Table}
use Rattle.replicate.specs.Gates.{passed}
use Rattle.replicate.specs.GroupStands.{GoesBy}
use Rattle.replicate.specs.Replicas.{Replica}
use Rattle.replicate.specs.Standings.{AreSameSeats, SeatsAre}
use Rattle.replicate.specs.Votes.{vote_of}
use Rattle.replicate.proofs.Changing.{upto}
use Rattle.replicate.proofs.settled.settle_all.Given as goal

abbrev pub invariant-loop-i : goal.invariant-loop-i
invariant-loop-i l = record {
  settled : (budget : ℕ) (rs : List Replica) (old : Table) → SeatsAre budget rs l.fn.seats → AllByRecursion (GoesBy old) rs → IsBelow old l.table → (l.is_changed ≡ false → l.table ≡ old) → l.votes ≡ map (vote_of budget) rs
      → SeatsAre budget (upto (passed budget l.winner l.table) l.i rs) l.seats;
  same : AreSameSeats l.fn.seats l.seats;
}
