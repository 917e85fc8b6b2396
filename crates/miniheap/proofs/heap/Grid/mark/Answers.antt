use Rattle.std.proofs.Common.{◌≡◌, ◌<◌, List, [], length, set, sym, ap, ◌∙◌, subst, arith}
use Rattle.std.proofs.lemmas.List.{get_or_read}
use Rattle.miniheap.specs.declared.place.SlotState.{SlotState}
use Rattle.miniheap.specs.Slots.{state_before}
use Rattle.miniheap.specs.Sound.{states_at, stands_for, IsSound}
use Rattle.miniheap.proofs.StateLemmas.{no_slot_in}
use Rattle.miniheap.proofs.MarkLemmas.{is_marked, sound_after}
use Rattle.miniheap.proofs.heap.Grid.mark.Goals as goal

pub unreachable-requires : goal.unreachable-requires
unreachable-requires c =
    no_slot_in c.self.inside.places c.self.inside.states.items c.args.self.now c.self.view_is c.args.addr (state_before c.args.state) (sym c.slot_at.ensures.slot ∙ c.in_default.is) c.requires.before

pub counted-requires-clause-some : goal.counted-requires-clause-some
counted-requires-clause-some c =
    (is_marked c.self.inside.places c.self.inside.states.items c.self.inside.taken c.classes_are_in_order.ensures c.self.invariant c.args.self.now c.self.view_is c.args.addr c.args.state c.in-Some.place
    (sym c.slot_at.ensures.slot ∙ c.in-Some.is) c.in-Some.ensures.known c.in-Some.ensures.class c.requires.before).some

pub counted-requires-clause-fits : goal.counted-requires-clause-fits
counted-requires-clause-fits c =
    (is_marked c.self.inside.places c.self.inside.states.items c.self.inside.taken c.classes_are_in_order.ensures c.self.invariant c.args.self.now c.self.view_is c.args.addr c.args.state c.in-Some.place
    (sym c.slot_at.ensures.slot ∙ c.in-Some.is) c.in-Some.ensures.known c.in-Some.ensures.class c.requires.before).fits

pub set-requires : goal.set-requires
set-requires c =
    let m = (is_marked c.self.inside.places c.self.inside.states.items c.self.inside.taken c.classes_are_in_order.ensures c.self.invariant c.args.self.now c.self.view_is c.args.addr c.args.state c.in-Some.place
    (sym c.slot_at.ensures.slot ∙ c.in-Some.is) c.in-Some.ensures.known c.in-Some.ensures.class c.requires.before) in
    let same : c.index_mut.result.now ≡ states_at c.self.inside.states.items c.in-Some.place.mini = get_or_read c.self.inside.states.items c.in-Some.place.mini c.index_mut.result.now m.list_known c.index_mut.ensures.value [] in
    subst (λ (us : List SlotState). c.in-Some.place.nth < length us) (sym same) m.state_known

pub invariant_of-self : goal.invariant_of-self
invariant_of-self c =
    let m = (is_marked c.self.inside.places c.self.inside.states.items c.self.inside.taken c.classes_are_in_order.ensures c.self.invariant c.args.self.now c.self.view_is c.args.addr c.args.state c.in-Some.place
    (sym c.slot_at.ensures.slot ∙ c.in-Some.is) c.in-Some.ensures.known c.in-Some.ensures.class c.requires.before) in
    let same : c.index_mut.result.now ≡ states_at c.self.inside.states.items c.in-Some.place.mini = get_or_read c.self.inside.states.items c.in-Some.place.mini c.index_mut.result.now m.list_known c.index_mut.ensures.value [] in
    let written : c.set.new.self ≡ set (states_at c.self.inside.states.items c.in-Some.place.mini) c.in-Some.place.nth c.args.state = c.set.ensures ∙ ap (λ (us : List SlotState). set us c.in-Some.place.nth c.args.state) same in
    let h : c.in-Some.place.class < length c.self.inside.taken = omega (arith, c.in-Some.ensures.class.1, c.self.told) in
    subst (λ (us : List SlotState). IsSound c.self.inside.places (set c.self.inside.states.items c.in-Some.place.mini us) (set c.self.inside.taken c.in-Some.place.class c.counted.result)) (sym written)
    (sound_after c.self.inside.places c.self.inside.states.items c.self.inside.taken c.self.invariant c.args.self.now c.args.addr c.args.state c.in-Some.place c.in-Some.ensures.known m c.counted.result h c.counted.ensures)

pub returns : goal.returns
returns c =
    let m = (is_marked c.self.inside.places c.self.inside.states.items c.self.inside.taken c.classes_are_in_order.ensures c.self.invariant c.args.self.now c.self.view_is c.args.addr c.args.state c.in-Some.place
    (sym c.slot_at.ensures.slot ∙ c.in-Some.is) c.in-Some.ensures.known c.in-Some.ensures.class c.requires.before) in
    let same : c.index_mut.result.now ≡ states_at c.self.inside.states.items c.in-Some.place.mini = get_or_read c.self.inside.states.items c.in-Some.place.mini c.index_mut.result.now m.list_known c.index_mut.ensures.value [] in
    let written : c.set.new.self ≡ set (states_at c.self.inside.states.items c.in-Some.place.mini) c.in-Some.place.nth c.args.state = c.set.ensures ∙ ap (λ (us : List SlotState). set us c.in-Some.place.nth c.args.state) same in
    ap (λ (us : List SlotState). stands_for c.self.inside.places (set c.self.inside.states.items c.in-Some.place.mini us)) written ∙ m.stands
