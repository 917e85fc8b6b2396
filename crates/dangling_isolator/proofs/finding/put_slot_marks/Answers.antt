use Rattle.std.proofs.Common.{rules, ◌≡◌, ◌+◌, ◌++◌, ◌≤◌, ◌∙◌, ap, filter, length}
use Rattle.std.specs.List.{flat_map}
use Rattle.std.proofs.lemmas.List.{take_all}
use Rattle.heap_image.specs.Lookup.{is_within}
use Rattle.dangling_isolator.specs.Marks.{break_marks}
use Rattle.dangling_isolator.proofs.Breaks.{within_marks}
use Rattle.dangling_isolator.proofs.finding.put_slot_marks.Goals as goal

pub returns : goal.returns
returns c =
    let bs = c.breaks_within-breaks.result.now in
    let all = c.args.image.now.broken in
    let ended : length bs ≤ c.loop-b.b-index = search rules in
    let kept : bs ≡ filter (is_within c.args.row.now.addr (c.args.row.now.addr + c.args.len)) all = c.breaks_within-breaks.ensures.within
    ∙ ap (λ n. filter (is_within n (n + c.from.result)) all) c.from-from.ensures
    ∙ ap (λ m. filter (is_within c.args.row.now.addr (c.args.row.now.addr + m)) all) c.from.ensures in
    c.loop-b.invariant ∙ ap (λ xs. c.args.marks.now.items ++ flat_map (break_marks c.args.len c.args.row.now) xs) (take_all c.loop-b.b-index bs ended ∙ kept) ∙ ap (λ ms. c.args.marks.now.items ++ ms) (within_marks c.args.len c.args.row.now all)
