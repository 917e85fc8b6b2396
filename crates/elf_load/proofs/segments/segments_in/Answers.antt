use Rattle.std.proofs.Common.{◌∙◌, ap, sym, subst, not, map}
use Rattle.std.specs.List.{All}
use Rattle.std.proofs.lemmas.List.Sorted.{All-permutation}
use Rattle.elf_load.specs.Headers.{segment_of}
use Rattle.elf_load.specs.Order.{InOrder}
use Rattle.elf_load.specs.Stages.{IsLoad}
use Rattle.elf_load.proofs.Loads.{region_is, total_is, entry_is, order_is, overlap_is}
use Rattle.elf_load.proofs.Refusals as refusal
use Rattle.elf_load.proofs.segments.segments_in.Goals as goal

pub returns-then-any_leaves_region : goal.returns-then-any_leaves_region
returns-then-any_leaves_region c =
    refusal.region c.args.file.now c.requires.rules
    (region_is c.args.file.now c.args.headers.items _ _ c.requires.loads c.deref.ensures.value c.any_leaves_region.ensures ∙ c.if-any_leaves_region.true)

pub returns-in-Ok-false : goal.returns-in-Ok-false
returns-in-Ok-false c =
    let file = c.args.file.now in
    let hs = c.args.headers.items in
    let order = subst (InOrder (map (segment_of file) hs) (map (segment_of file) c.put_in_order.new.headers.items)) c.in-Ok-false.field-0-test (c.in-Ok-false.ensures.order file) in
    refusal.overlap file c.requires.rules
    (region_is file hs _ _ c.requires.loads c.deref.ensures.value c.any_leaves_region.ensures ∙ c.if-any_leaves_region.false)
    (overlap_is file hs c.put_in_order.new.headers.items c.requires.loads order)

pub returns-then-is_large : goal.returns-then-is_large
returns-then-is_large c =
    let file = c.args.file.now in
    let hs = c.args.headers.items in
    let order = subst (InOrder (map (segment_of file) hs) (map (segment_of file) c.put_in_order.new.headers.items)) c.in-Ok-true.field-0-test (c.in-Ok-true.ensures.order file) in
    refusal.total file c.requires.rules
    (region_is file hs _ _ c.requires.loads c.deref.ensures.value c.any_leaves_region.ensures ∙ c.if-any_leaves_region.false)
    (order_is file hs _ c.requires.loads order).0
    (total_is file hs _ _ c.requires.loads c.deref-3.ensures.value c.is_too_large-is_large.ensures ∙ c.if-is_large.true)

pub returns-then-not-is_entered : goal.returns-then-not-is_entered
returns-then-not-is_entered c =
    let file = c.args.file.now in
    let hs = c.args.headers.items in
    let order = subst (InOrder (map (segment_of file) hs) (map (segment_of file) c.put_in_order.new.headers.items)) c.in-Ok-true.field-0-test (c.in-Ok-true.ensures.order file) in
    refusal.entry file c.requires.rules
    (region_is file hs _ _ c.requires.loads c.deref.ensures.value c.any_leaves_region.ensures ∙ c.if-any_leaves_region.false)
    (order_is file hs _ c.requires.loads order).0
    (total_is file hs _ _ c.requires.loads c.deref-3.ensures.value c.is_too_large-is_large.ensures ∙ c.if-is_large.false)
    (entry_is file hs _ _ _ c.requires.loads c.deref-2.ensures.value c.u32_at.ensures c.is_entered-is_entered.ensures ∙ ap not c.if-not-is_entered.true)

pub copy-requires : goal.copy-requires
copy-requires c =
    subst (All (IsLoad c.args.file.now)) (sym c.deref-4.ensures.value) (All-permutation (IsLoad c.args.file.now) _ _ c.in-Ok-true.ensures.permutation c.requires.loads.each)

pub returns-in-Ok : goal.returns-in-Ok
returns-in-Ok c =
    let file = c.args.file.now in
    let hs = c.args.headers.items in
    let order = subst (InOrder (map (segment_of file) hs) (map (segment_of file) c.put_in_order.new.headers.items)) c.in-Ok-true.field-0-test (c.in-Ok-true.ensures.order file) in
    let is = order_is file hs _ c.requires.loads order in (
      record {
        headers = c.requires.rules;
        region = region_is file hs _ _ c.requires.loads c.deref.ensures.value c.any_leaves_region.ensures ∙ c.if-any_leaves_region.false;
        apart = is.0;
        small = total_is file hs _ _ c.requires.loads c.deref-3.ensures.value c.is_too_large-is_large.ensures ∙ c.if-is_large.false;
        entered = entry_is file hs _ _ _ c.requires.loads c.deref-2.ensures.value c.u32_at.ensures c.is_entered-is_entered.ensures ∙ ap not c.if-not-is_entered.false;
      },
      c.in-Ok.ensures ∙ ap (map (segment_of file)) c.deref-4.ensures.value ∙ is.1,
    )
