use Rattle.std.proofs.Common.{Ok, refl}
use Rattle.heap_image.specs.Versions.{text_version}
use Rattle.heap_image.proofs.Answered.{AreSpelled, OneTable, one_bytes, one_image, one_version}
use Rattle.heap_image.proofs.Texts.{same_table}
use Rattle.heap_image.proofs.laws.one_spelling.Goals as goal

pub returns-clause-bytes : goal.returns-clause-bytes
returns-clause-bytes c =
    let spelled : AreSpelled = λ version text table is. ((c.one_text_a_table.ensures.spelled (text_version version) text table).0 is).2 in
    λ version bytes others s a b. one_bytes version bytes others s spelled a b

pub returns-clause-image : goal.returns-clause-image
returns-clause-image c =
    let one : OneTable = λ version text a b p q. same_table a b (Ok a) (Ok b) refl refl (c.one_answer.ensures text (Ok a) (Ok b) (text_version version, p) (text_version version, q)) in
    λ version other bytes s t a b. (one_version version other bytes s t a b, one_image version other bytes s t one a b)
