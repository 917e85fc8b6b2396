use Rattle.std.proofs.Common.{rules, refl, sym, subst, ◌∙◌, List}
use Rattle.std.proofs.lemmas.List.{with_items_is}
use Rattle.replicate.specs.declared.seat.Seat.{Seat}
use Rattle.replicate.specs.GroupStands.{HaveTag}
use Rattle.replicate.specs.Standings.{SeatsAre}
use Rattle.replicate.proofs.Turning.{group-turned, lead-turned, none-of}
use Rattle.replicate.proofs.group.Group.turn.Goals as goal

pub returns-in-Ok-clause-turned : goal.returns-in-Ok-clause-turned
returns-in-Ok-clause-turned g c = λ g' bytes tells is.
    group-turned c.steps_are_shaped.ensures.guest bytes c.args.i c.args.n g' c.args.self.now c.turn_of.new.seats c.in-Ok.there _ is (none-of c.args.self.now.over (sym c.if-is_some.ensures))
    (c.in-Ok.ensures.turned g'.budget g'.replicas bytes tells (subst (λ (ss : List Seat). SeatsAre g'.budget g'.replicas ss) (sym c.deref_mut.ensures.value) is.seats))
    (c.in-Ok.ensures.tags g'.tag (subst (λ (ss : List Seat). HaveTag g'.tag ss) (sym c.deref_mut.ensures.value) is.tags)) (with_items_is c.args.self.now.seats c.turn_of.new.seats (search rules)) refl refl refl refl refl

pub returns-in-Ok-clause-lead : goal.returns-in-Ok-clause-lead
returns-in-Ok-clause-lead g c = λ g' bytes tells is.
    lead-turned bytes c.args.i c.args.n g' c.args.self.now.lead c.greatest_lead-raised.result c.turn_of.new.seats (sym is.over ∙ none-of c.args.self.now.over (sym c.if-is_some.ensures))
    (c.in-Ok.ensures.turned g'.budget g'.replicas bytes tells (subst (λ (ss : List Seat). SeatsAre g'.budget g'.replicas ss) (sym c.deref_mut.ensures.value) is.seats)).0
    (λ budget rs so. c.greatest_lead-raised.ensures budget rs (subst (λ (ss : List Seat). SeatsAre budget rs ss) (sym (c.deref-in-Ok.ensures.value ∙ with_items_is c.args.self.now.seats c.turn_of.new.seats (search rules))) so))
