use Rattle.std.proofs.Common.{◌≡◌, ◌/◌, ◌^◌, List, [], ◌∷◌, ◌++◌, ap, ◌∙◌, replicate}
use Rattle.miniheap.specs.declared.place.SlotState.{SlotState}
use Rattle.miniheap.specs.declared.place.SlotState.TheVariants.{Free}
use Rattle.miniheap.proofs.ChangeLemmas.{sound_added, stands_added}
use Rattle.miniheap.proofs.heap.Grid.add.Goals as goal

pub invariant_of-self-2 : goal.invariant_of-self-2
invariant_of-self-2 c =
    let lists : c.push.new.self.items ≡ c.self.inside.states.items ++ replicate (c.args.bytes / 2 ^ c.args.class) Free ∷ [] =
    c.in_ok-push.ensures.items ∙ ap (λ (ls : List (List SlotState)). ls ++ c.in_ok-states.states ∷ []) c.in_ok-reserve.ensures.items
    ∙ ap (λ (ts : List SlotState). c.self.inside.states.items ++ ts ∷ []) c.in_ok-states.ensures in
    sound_added c.self.inside.places c.self.inside.states.items c.self.inside.taken c.self.invariant c.args.self.now c.self.view_is c.args.class c.args.bytes c.requires.bytes c.add.new.self c.push.new.self.items c.in_ok-base.ensures.grows lists

pub returns-clause-grows : goal.returns-clause-grows
returns-clause-grows c =
    let lists : c.push.new.self.items ≡ c.self.inside.states.items ++ replicate (c.args.bytes / 2 ^ c.args.class) Free ∷ [] =
    c.in_ok-push.ensures.items ∙ ap (λ (ls : List (List SlotState)). ls ++ c.in_ok-states.states ∷ []) c.in_ok-reserve.ensures.items
    ∙ ap (λ (ts : List SlotState). c.self.inside.states.items ++ ts ∷ []) c.in_ok-states.ensures in
    stands_added c.self.inside.places c.self.inside.states.items c.self.inside.taken c.self.invariant c.args.self.now c.self.view_is c.args.class c.args.bytes c.requires.bytes c.add.new.self c.push.new.self.items c.in_ok-base.ensures.grows lists
