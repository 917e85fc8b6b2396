use Rattle.std.proofs.Common.{drop}
use Rattle.heap_image.proofs.Texts.{AreSpelled, with_head_result, without_head}
use Rattle.heap_image.proofs.patches.patches_of.Goals as goal

pub returns-then-not-has_head : goal.returns-then-not-has_head
returns-then-not-has_head c =
    let spelled : AreSpelled = λ version text table is. ((c.one_text_a_table.ensures.spelled version text table).0 is).2 in
    without_head c.args.version c.args.text.now spelled c.has_head.result c.if-not-has_head.true c.has_head.ensures.all

pub returns : goal.returns
returns c =
    let spelled : AreSpelled = λ version text table is. ((c.one_text_a_table.ensures.spelled version text table).0 is).2 in
    with_head_result c.args.version c.args.text.now (drop 17 c.args.text.now) spelled (c.has_head.ensures.begins c.if-not-has_head.false) c.any_patches.result c.any_patches.ensures
