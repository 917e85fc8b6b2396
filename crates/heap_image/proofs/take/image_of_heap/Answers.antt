use Rattle.std.proofs.Common.{rules, ◌<◌, ◌^◌, ap, sym, ◌∙◌, refl, subst}
use Rattle.std.proofs.Math.Logic.{∥∥₁_elim}
use Rattle.std.specs.List.{AllByRecursion}
use Rattle.exact_heap.specs.Heaps.{StandsFor, rules_of}
use Rattle.exact_heap.specs.History.{History}
use Rattle.exact_heap.specs.Rows.{rows_of}
use Rattle.exact_heap.specs.Stands.{state_at}
use Rattle.rv_memory.specs.Spaces.{memory_of}
use Rattle.heap_image.specs.Lawful.{IsLawful}
use Rattle.heap_image.specs.Laws.{IsTyped}
use Rattle.heap_image.specs.Taken.{broken_of, contents_of}
use Rattle.heap_image.proofs.LawfulProp.{IsLawful-prop}
use Rattle.heap_image.proofs.TakenHeaps.{heap_state, image_is, refused, slots_mapped}
use Rattle.heap_image.proofs.take.image_of_heap.Goals as goal

pub returns-in_err-patches : goal.returns-in_err-patches
returns-in_err-patches c = λ h stands. refused _ c.from_residual.result _ c.from_residual.ensures.1

pub returns-in_err-miniheaps : goal.returns-in_err-miniheaps
returns-in_err-miniheaps c = λ h stands. refused _ c.from_residual-in_err-miniheaps.result _ c.from_residual-in_err-miniheaps.ensures.1

pub returns-in_err-rows : goal.returns-in_err-rows
returns-in_err-rows c = λ h stands. refused _ c.from_residual-in_err-rows.result _ c.from_residual-in_err-rows.ensures.1

pub contents_of-requires : goal.contents_of-requires
contents_of-requires c = record { mapped = slots_mapped c.miniheaps_are_mapped.ensures.slots c.args.heap.now c.args.space.now c.grid-grid.result.now c.requires.lives c.requires.home c.grid-grid.ensures.slots }

pub returns-in_err-contents : goal.returns-in_err-contents
returns-in_err-contents c = λ h stands. refused _ c.from_residual-in_err-contents.result _ c.from_residual-in_err-contents.ensures.1

pub broken_of-requires : goal.broken_of-requires
broken_of-requires c = record { mapped = slots_mapped c.miniheaps_are_mapped.ensures.slots c.args.heap.now c.args.space.now c.grid-grid.result.now c.requires.lives c.requires.home c.grid-grid.ensures.slots }

pub returns-in_err-broken : goal.returns-in_err-broken
returns-in_err-broken c = λ h stands. refused _ c.from_residual-in_err-broken.result _ c.from_residual-in_err-broken.ensures.1

pub same-patches : goal.same-patches
same-patches c = refl

pub invariant_of-result : goal.invariant_of-result
invariant_of-result c =
    let mapped = slots_mapped c.miniheaps_are_mapped.ensures.slots c.args.heap.now c.args.space.now c.grid-grid.result.now c.requires.lives c.requires.home c.grid-grid.ensures.slots in
    let seed : c.seed-seed.result < 2 ^ 64 = search rules in
    let clock : c.clock-clock.result < 2 ^ 64 = search rules in
    ∥∥₁_elim c.requires.stands (IsLawful-prop _) (λ (known : (h : History) × StandsFor c.args.heap.now h).
    let h = known.0 in
    let stands = known.1 in
    let rows = c.in_ok-rows.ensures h stands in
    let typed : AllByRecursion IsTyped (rows_of h) = subst (AllByRecursion IsTyped) (c.deref.ensures.value ∙ rows) c.in_ok-contents.ensures.typed in
    let state = heap_state c.histories_stay_lawful.ensures.stood_for c.slots_have_their_places.ensures.hold c.spans_are_their_bytes.ensures.at_each c.args.heap.now c.args.space.now c.grid-grid.result.now h stands mapped (c.grid-grid.ensures.stands h stands) c.bounds.ensures
    (subst (λ n. n < 2 ^ 64) (c.seed-seed.ensures h stands) seed) (subst (λ n. n < 2 ^ 64) (c.clock-clock.ensures.stands h stands) clock) typed in
    subst IsLawful (sym (image_is c.args.tag c.seed-seed.result c.args.place c.clock-clock.result c.in_ok-patches.patches (rules_of c.args.heap.now).patches c.in_ok-miniheaps.miniheaps.items c.in_ok-rows.rows.items c.in_ok-contents.contents.items c.in_ok-broken.broken.items c.grid-grid.result.now h (memory_of c.args.space.now)
    (c.seed-seed.ensures h stands) (c.clock-clock.ensures.stands h stands) (c.in_ok-patches.ensures ∙ c.patches.ensures) (c.in_ok-miniheaps.ensures.items ∙ c.classes.ensures.classes) rows
    (c.in_ok-contents.ensures.contents ∙ ap (contents_of (memory_of c.args.space.now) c.grid-grid.result.now.classes) c.deref.ensures.value)
    (c.in_ok-broken.ensures ∙ ap (broken_of c.grid-grid.result.now (memory_of c.args.space.now)) c.canary_of.ensures) (c.grid-grid.ensures.stands h stands)))
    (c.heap_images_are_lawful.ensures c.args.tag (rules_of c.args.heap.now).patches c.args.place (state_at h c.args.space.now) c.ranges.tag.fits c.requires.place state))

pub returns : goal.returns
returns c = λ h stands.
    let rows = c.in_ok-rows.ensures h stands in
    image_is c.args.tag c.seed-seed.result c.args.place c.clock-clock.result c.in_ok-patches.patches (rules_of c.args.heap.now).patches c.in_ok-miniheaps.miniheaps.items c.in_ok-rows.rows.items c.in_ok-contents.contents.items c.in_ok-broken.broken.items c.grid-grid.result.now h (memory_of c.args.space.now)
    (c.seed-seed.ensures h stands) (c.clock-clock.ensures.stands h stands) (c.in_ok-patches.ensures ∙ c.patches.ensures) (c.in_ok-miniheaps.ensures.items ∙ c.classes.ensures.classes) rows
    (c.in_ok-contents.ensures.contents ∙ ap (contents_of (memory_of c.args.space.now) c.grid-grid.result.now.classes) c.deref.ensures.value)
    (c.in_ok-broken.ensures ∙ ap (broken_of c.grid-grid.result.now (memory_of c.args.space.now)) c.canary_of.ensures) (c.grid-grid.ensures.stands h stands)
