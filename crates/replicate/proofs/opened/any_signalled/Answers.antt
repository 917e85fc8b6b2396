use Rattle.std.proofs.Common.{◌≡◌, ◌+◌, true, false, arith, ap, sym, ◌∙◌, drop}
use Rattle.replicate.specs.Gates.{any_signalled, winners, wins}
use Rattle.replicate.proofs.Changing.{loser-next, signal-first, winner-next, wins-at}
use Rattle.replicate.proofs.Voting.{placed}
use Rattle.replicate.proofs.opened.any_signalled.Goals as goal
use Rattle.replicate.proofs.opened.any_signalled.Goals.{else-is_for-via-then-is_for+else-has_signalled, else-is_for-via-else-is_for}

pub returns-then-has_signalled : goal.returns-then-has_signalled
returns-then-has_signalled c = λ budget rs so are.
    let p = placed budget c.loop-i.i rs c.args.seats.now c.index-seats-i.result (omega arith) c.index-seats-i.is so in
    let won : wins budget c.args.winner.now p.r ≡ true = wins-at budget c.loop-i.i rs p.r c.args.votes.now c.index-votes-i.result c.args.winner.now c.is_for.result p.within p.at are c.index-votes-i.is c.is_for.ensures ∙ c.if-is_for.true in
    sym (signal-first p.r (winners budget c.args.winner.now (drop (c.loop-i.i + 1) rs)) true (sym (c.has_signalled.ensures p.r p.stands) ∙ c.if-has_signalled.true))
    ∙ ap any_signalled (sym (winner-next budget c.loop-i.i c.args.winner.now rs c.index-seats-i.result p won)) ∙ c.loop-i.invariant budget rs so are

pub loop-i-preserved : goal.loop-i-preserved
loop-i-preserved c = λ budget rs so are.
    let p = placed budget c.loop-i.i rs c.args.seats.now c.index-seats-i.result (omega arith) c.index-seats-i.is so in
    elim c.else-is_for.branch [
      | else-is_for-via-then-is_for+else-has_signalled w ↦
          let won : wins budget c.args.winner.now p.r ≡ true = wins-at budget c.loop-i.i rs p.r c.args.votes.now c.index-votes-i.result c.args.winner.now c.is_for.result p.within p.at are c.index-votes-i.is c.is_for.ensures ∙ w.if-is_for.true in
          sym (signal-first p.r (winners budget c.args.winner.now (drop (c.loop-i.i + 1) rs)) false (sym (w.has_signalled.ensures p.r p.stands) ∙ w.if-has_signalled.false))
          ∙ ap any_signalled (sym (winner-next budget c.loop-i.i c.args.winner.now rs c.index-seats-i.result p won)) ∙ c.loop-i.invariant budget rs so are
      | else-is_for-via-else-is_for w ↦
          let won : wins budget c.args.winner.now p.r ≡ false = wins-at budget c.loop-i.i rs p.r c.args.votes.now c.index-votes-i.result c.args.winner.now c.is_for.result p.within p.at are c.index-votes-i.is c.is_for.ensures ∙ w.if-is_for.false in
          ap any_signalled (sym (loser-next budget c.loop-i.i c.args.winner.now rs c.index-seats-i.result p won)) ∙ c.loop-i.invariant budget rs so are
    ]
