use Rattle.std.proofs.Common.{rules, ◌≡◌, ◌-◌, [], take, drop, filter, subst, sym, ap, ◌∙◌}
use Rattle.heap_image.specs.Lookup.{AddrsRise, is_within}
use Rattle.heap_image.proofs.Between.{addrs_rise, in_order, cut, cut_rises, AreBelow, AreFrom}
use Rattle.heap_image.proofs.image.Image.breaks_within.Goals as goal

pub count_below-start-requires : goal.count_below-start-requires
count_below-start-requires c = rw c.deref.ensures.value (record { rising = addrs_rise c.self.inside.seed c.self.inside.miniheaps.items c.self.inside.rows.items [] c.self.inside.broken.items c.self.invariant.broken })

pub count_below-end-requires : goal.count_below-end-requires
count_below-end-requires c = rw c.deref-2.ensures.value (record { rising = addrs_rise c.self.inside.seed c.self.inside.miniheaps.items c.self.inside.rows.items [] c.self.inside.broken.items c.self.invariant.broken })

pub slice_bounds-result-count : goal.slice_bounds-result-count
slice_bounds-result-count c =
    let same : c.deref-2.result.now ≡ c.deref.result.now = c.deref-2.ensures.value ∙ sym c.deref.ensures.value in
    in_order c.deref.result.now c.args.from c.args.to c.count_below-start.result c.count_below-end.result c.requires c.count_below-start.ensures.bound c.count_below-start.ensures.below (subst (λ bs. AreFrom bs c.args.to c.count_below-end.result) same c.count_below-end.ensures.from)

pub slice_bounds-result-start : goal.slice_bounds-result-start
slice_bounds-result-start c =
    let same : c.deref-2.result.now ≡ c.deref.result.now = c.deref-2.ensures.value ∙ sym c.deref.ensures.value in
    in_order c.deref.result.now c.args.from c.args.to c.count_below-start.result c.count_below-end.result c.requires c.count_below-start.ensures.bound c.count_below-start.ensures.below (subst (λ bs. AreFrom bs c.args.to c.count_below-end.result) same c.count_below-end.ensures.from)

pub returns-clause-within : goal.returns-clause-within
returns-clause-within c =
    let bs = c.self.inside.broken.items in
    let whole : bs ≡ c.args.self.now.broken = ap (λ s. s.broken) c.self.view_is in
    rw c.deref-3.ensures.value (sym (cut bs c.args.from c.args.to c.count_below-start.result c.count_below-end.result
    (subst (λ xs. AreBelow xs c.args.from c.count_below-start.result) c.deref.ensures.value c.count_below-start.ensures.below)
    (subst (λ xs. AreFrom xs c.args.from c.count_below-start.result) c.deref.ensures.value c.count_below-start.ensures.from)
    (subst (λ xs. AreBelow xs c.args.to c.count_below-end.result) c.deref-2.ensures.value c.count_below-end.ensures.below)
    (subst (λ xs. AreFrom xs c.args.to c.count_below-end.result) c.deref-2.ensures.value c.count_below-end.ensures.from)))
    ∙ ap (filter (is_within c.args.from c.args.to)) whole

pub returns-clause-rising : goal.returns-clause-rising
returns-clause-rising c =
    rw c.deref-3.ensures.value (cut_rises c.self.inside.broken.items c.count_below-start.result (c.count_below-end.result - c.count_below-start.result)
    (addrs_rise c.self.inside.seed c.self.inside.miniheaps.items c.self.inside.rows.items [] c.self.inside.broken.items c.self.invariant.broken))
