use Rattle.std.proofs.Common.{◌≡◌, ◌+◌, true, false, arith, ap, sym, ◌∙◌, drop, Some}
use Rattle.replicate.specs.declared.answer.GateAnswer.TheVariants as answer
use Rattle.replicate.specs.Gates.{end_at, winners, wins}
use Rattle.replicate.proofs.Changing.{end-first, loser-next, no-wait, winner-next, wins-at}
use Rattle.replicate.proofs.Voting.{placed}
use Rattle.replicate.proofs.opened.end_of.Goals as goal

pub returns-then-is_for : goal.returns-then-is_for
returns-then-is_for c = λ budget rs so are.
    let p = placed budget c.loop-i.i rs c.args.seats.now c.index-seats-i.result (omega arith) c.index-seats-i.is so in
    let won : wins budget c.args.winner.now p.r ≡ true = wins-at budget c.loop-i.i rs p.r c.args.votes.now c.index-votes-i.result c.args.winner.now c.is_for.result p.within p.at are c.index-votes-i.is c.is_for.ensures ∙ c.if-is_for.true in
    ap (λ e. Some (answer.Ended e)) (c.ending_of.ensures p.r p.stands (no-wait budget c.args.winner.now p.r c.in_default.not-Write won))
    ∙ sym (end-first c.args.winner.now p.r (winners budget c.args.winner.now (drop (c.loop-i.i + 1) rs)) c.in_default.not-Write c.in_default.not-Clock)
    ∙ ap (end_at c.args.winner.now) (sym (winner-next budget c.loop-i.i c.args.winner.now rs c.index-seats-i.result p won)) ∙ c.loop-i.invariant budget rs so are

pub loop-i-preserved : goal.loop-i-preserved
loop-i-preserved c = λ budget rs so are.
    let p = placed budget c.loop-i.i rs c.args.seats.now c.index-seats-i.result (omega arith) c.index-seats-i.is so in
    let won : wins budget c.args.winner.now p.r ≡ false = wins-at budget c.loop-i.i rs p.r c.args.votes.now c.index-votes-i.result c.args.winner.now c.is_for.result p.within p.at are c.index-votes-i.is c.is_for.ensures ∙ c.if-is_for.false in
    ap (end_at c.args.winner.now) (sym (loser-next budget c.loop-i.i c.args.winner.now rs c.index-seats-i.result p won)) ∙ c.loop-i.invariant budget rs so are
