use Rattle.std.proofs.Common.{◌≡◌, true, false, arith, ap, ◌∙◌, map}
use Rattle.replicate.specs.Gates.{image_of, winners, wins}
use Rattle.replicate.proofs.Changing.{image-more, image-same, tag-at, wins-at}
use Rattle.replicate.proofs.Voting.{placed}
use Rattle.replicate.proofs.opened.images_of.Goals as goal
use Rattle.replicate.proofs.opened.images_of.Goals.{then-is_for+in_ok-image+in_ok-push, else-is_for}

pub loop-i-preserved : goal.loop-i-preserved
loop-i-preserved c = λ budget tag rs so tags are.
    let p = placed budget c.loop-i.i rs c.args.seats.now c.index-seats-i.result (omega arith) c.index-seats-i.is so in
    elim c.if-is_for.branch [
      | then-is_for+in_ok-image+in_ok-push w ↦
          let won : wins budget c.args.winner.now p.r ≡ true = wins-at budget c.loop-i.i rs p.r c.args.votes.now c.index-votes-i.result c.args.winner.now c.is_for.result p.within p.at are c.index-votes-i.is c.is_for.ensures ∙ w.if-is_for.true in
          simp w.images-is (image-more budget tag c.loop-i.i c.args.winner.now rs c.index-seats-i.result p c.loop-i.images.items w.push.new.self.items (map (image_of tag) (winners budget c.args.winner.now rs)) w.in_ok-image.image won
          (w.in_ok-image.ensures p.r p.stands ∙ ap (λ t. image_of t p.r) (tag-at tag c.loop-i.i c.args.seats.now c.index-seats-i.result (omega arith) c.index-seats-i.is tags)) w.in_ok-push.ensures.items (c.loop-i.invariant budget tag rs so tags are))
      | else-is_for w ↦
          let won : wins budget c.args.winner.now p.r ≡ false = wins-at budget c.loop-i.i rs p.r c.args.votes.now c.index-votes-i.result c.args.winner.now c.is_for.result p.within p.at are c.index-votes-i.is c.is_for.ensures ∙ w.if-is_for.false in
          simp w.images-is (image-same budget tag c.loop-i.i c.args.winner.now rs c.index-seats-i.result p c.loop-i.images.items (map (image_of tag) (winners budget c.args.winner.now rs)) won (c.loop-i.invariant budget tag rs so tags are))
    ]
