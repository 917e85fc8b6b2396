use Rattle.std.proofs.Common.{◌≡◌, ◌++◌, arith, sym, ◌∙◌}
use Rattle.replicate.specs.Gates.{losers_from, loses}
use Rattle.replicate.proofs.Changing.{loser-listed, vote-at, winner-unlisted}
use Rattle.replicate.proofs.Voting.{placed}
use Rattle.replicate.proofs.settled.list_losers.Goals as goal
use Rattle.replicate.proofs.settled.list_losers.Goals.{then-loses+in-Ok, else-loses}

pub loop-i-preserved : goal.loop-i-preserved
loop-i-preserved c = λ budget rs so are.
    let p = placed budget c.loop-i.i rs c.args.seats.now c.index-seats-i.result (omega arith) c.index-seats-i.is so in
    let lost : c.loses.result ≡ loses budget c.args.winner.now p.r = c.loses.ensures budget p.r p.stands (vote-at budget c.loop-i.i rs p.r c.args.votes.now c.index-votes-i.result p.within p.at are c.index-votes-i.is) in
    elim c.if-loses.branch [
      | then-loses+in-Ok w ↦ simp w.retired-is (loser-listed budget c.loop-i.i c.args.gate c.args.winner.now rs c.index-seats-i.result p c.loop-i.retired.items w.try_push.new.self.items (c.args.retired.now.items ++ losers_from budget c.args.winner.now c.args.gate 0 rs) (sym lost ∙ w.if-loses.true) w.in-Ok.ensures.ok (c.loop-i.invariant budget rs so are))
      | else-loses w ↦ simp w.retired-is (winner-unlisted budget c.loop-i.i c.args.gate c.args.winner.now rs c.index-seats-i.result p c.loop-i.retired.items (c.args.retired.now.items ++ losers_from budget c.args.winner.now c.args.gate 0 rs) (sym lost ∙ w.if-loses.false) (c.loop-i.invariant budget rs so are))
    ]
