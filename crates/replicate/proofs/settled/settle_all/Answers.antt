use Rattle.std.proofs.Common.{◌≡◌, arith, ap, sym, subst, get_or}
use Rattle.replicate.specs.declared.seat.Seat.{Seat}
use Rattle.replicate.specs.Gates.{passed, settled_by, wins}
use Rattle.replicate.specs.GroupStands.{GoesBy}
use Rattle.replicate.specs.Seats.{IsSeat}
use Rattle.replicate.specs.Standings.{SeatsAre}
use Rattle.replicate.proofs.Changing.{all-at, same-seats, same-set, upto-all, upto-more, wins-at, won-lives}
use Rattle.replicate.proofs.Voting.{same-count}
use Rattle.replicate.proofs.settled.settle_all.Goals as goal

pub loop-i-init : goal.loop-i-init
loop-i-init c = record { settled = λ budget rs old so goes below keeps are. so; same = same-seats c.args.seats.now }

pub returns-in_err-settle-clause-same : goal.returns-in_err-settle-clause-same
returns-in_err-settle-clause-same c = same-set c.loop-i.i c.args.seats.now c.loop-i.seats (get_or c.loop-i.seats c.loop-i.i c.index-seats-i.result) c.settle.new.seat (omega arith) (ap (λ (x : Seat). get_or c.loop-i.seats c.loop-i.i x) c.index-seats-i.is) c.settle.ensures.same c.loop-i.invariant.same

pub loop-i-preserved : goal.loop-i-preserved
loop-i-preserved c = record {
  settled = λ budget rs old so goes below keeps are.
      upto-more budget c.loop-i.i (passed budget c.args.winner.now c.args.table.now) rs c.loop-i.seats (get_or c.loop-i.seats c.loop-i.i c.index-seats-i.result) c.settle.new.seat (omega arith) (ap (λ (x : Seat). get_or c.loop-i.seats c.loop-i.i x) c.index-seats-i.is) c.settle.ensures.same.budget
      (λ r at within is same.
      let won : wins budget c.args.winner.now r ≡ c.is_for-wins.result = wins-at budget c.loop-i.i rs r c.args.votes.now c.index-votes-i.result c.args.winner.now c.is_for-wins.result within at are c.index-votes-i.is c.is_for-wins.ensures in
      subst (λ b. IsSeat (settled_by b c.args.table.now r) c.settle.new.seat) (sym won)
      (c.in_ok-settle.ensures.settled r old is (won-lives budget c.args.winner.now r c.is_for-wins.result won (all-at (GoesBy old) rs c.loop-i.i r within at goes)) below keeps))
      (c.loop-i.invariant.settled budget rs old so goes below keeps are);
  same = same-set c.loop-i.i c.args.seats.now c.loop-i.seats (get_or c.loop-i.seats c.loop-i.i c.index-seats-i.result) c.settle.new.seat (omega arith) (ap (λ (x : Seat). get_or c.loop-i.seats c.loop-i.i x) c.index-seats-i.is) c.settle.ensures.same c.loop-i.invariant.same;
}

pub returns-clause-settled : goal.returns-clause-settled
returns-clause-settled c = λ budget rs old so goes below keeps are.
    let count = same-count budget rs c.args.seats.now so in
    subst (λ xs. SeatsAre budget xs c.loop-i.seats) (upto-all (passed budget c.args.winner.now c.args.table.now) c.loop-i.i rs (omega (arith, count))) (c.loop-i.invariant.settled budget rs old so goes below keeps are)
