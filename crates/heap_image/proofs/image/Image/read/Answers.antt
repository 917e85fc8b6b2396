use Rattle.std.proofs.Common.{Ok, refl, arith}
use Rattle.heap_image.specs.Versions.{text_version}
use Rattle.heap_image.proofs.Answered.{OneTable, is_read, accepts}
use Rattle.heap_image.proofs.Texts.{same_table}
use Rattle.heap_image.proofs.image.Image.read.Goals as goal

pub returns-clause-image : goal.returns-clause-image
returns-clause-image c = is_read c.args.bytes.now c.answer_of.result (λ i. omega (arith, c.type_inv.bytes i)) c.answer_of.ensures

pub returns-clause-accepts : goal.returns-clause-accepts
returns-clause-accepts c =
    let one : OneTable = λ version text a b p q. same_table a b (Ok a) (Ok b) refl refl (c.one_answer.ensures text (Ok a) (Ok b) (text_version version, p) (text_version version, q)) in
    λ version s h. accepts version c.args.bytes.now s c.answer_of.result one h c.answer_of.ensures
