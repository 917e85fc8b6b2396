use Rattle.std.proofs.Common.{◌≡◌, ◌+◌, refl, rules, sym, ◌∙◌, ap}
use Rattle.std.proofs.lemmas.List.{with_items_is}
use Rattle.replicate.specs.Gates.{answer_of, counted_gates}
use Rattle.replicate.proofs.AtGate.{opens}
use Rattle.replicate.proofs.Changing.{same-seats}
use Rattle.replicate.proofs.group.Group.open_gate.Goals as goal

pub returns-in_default-clause-same : goal.returns-in_default-clause-same
returns-in_default-clause-same g c = same-seats c.args.self.now.seats.items

pub returns-in-Err-clause-same : goal.returns-in-Err-clause-same
returns-in-Err-clause-same g c = same-seats c.args.self.now.seats.items

pub returns-in-Err-list_losers-clause-same : goal.returns-in-Err-list_losers-clause-same
returns-in-Err-list_losers-clause-same g c = same-seats c.args.self.now.seats.items

pub returns-in-Some-over-clause-opens : goal.returns-in-Some-over-clause-opens
returns-in-Some-over-clause-opens g c = λ g' is are two.
    let more : c.in-Some.gate ≡ c.args.self.now.gates + 1 = search rules in
    opens g' c.args.winner.now c.args.self.now _ c.args.votes.now c.deref.result.now c.deref-2.result.now c.deref-3.result.now c.deref_mut.result.now c.settle_all.new.seats c.in-Some.gate c.end_of-over.result c.in-Ok.is_changed c.cure.new.patches c.cure.new.patched.items c.list_losers.new.retired.items c.in-Some-over.ended
    is are two c.deref.ensures.value c.deref-2.ensures.value c.deref-3.ensures.value c.deref_mut.ensures.value more c.end_of-over.ensures c.in-Ok.ensures.cures c.in-Ok.ensures.unchanged c.in-Ok.ensures.above c.in-Ok-list_losers.ensures c.in-Ok-settle_all.ensures.settled c.settle_all.ensures.same
    (with_items_is c.args.self.now.seats c.settle_all.new.seats (search rules)) refl refl refl refl (sym (ap (λ o. counted_gates o c.args.self.now.gates) c.in-Some-over.is)) (sym (ap answer_of c.in-Some-over.is))

pub returns-in-None-clause-opens : goal.returns-in-None-clause-opens
returns-in-None-clause-opens g c = λ g' is are two.
    let more : c.in-Some.gate ≡ c.args.self.now.gates + 1 = search rules in
    opens g' c.args.winner.now c.args.self.now _ c.args.votes.now c.deref.result.now c.deref-2.result.now c.deref-3.result.now c.deref_mut.result.now c.settle_all.new.seats c.in-Some.gate c.end_of-over.result c.in-Ok.is_changed c.cure.new.patches c.cure.new.patched.items c.list_losers.new.retired.items _
    is are two c.deref.ensures.value c.deref-2.ensures.value c.deref-3.ensures.value c.deref_mut.ensures.value more c.end_of-over.ensures c.in-Ok.ensures.cures c.in-Ok.ensures.unchanged c.in-Ok.ensures.above c.in-Ok-list_losers.ensures c.in-Ok-settle_all.ensures.settled c.settle_all.ensures.same
    (with_items_is c.args.self.now.seats c.settle_all.new.seats (search rules)) refl refl refl refl (more ∙ sym (ap (λ o. counted_gates o c.args.self.now.gates) c.in-None.is)) (sym (ap answer_of c.in-None.is))
