use Rattle.std.proofs.Common.{Ok, refl}
use Rattle.heap_image.specs.Versions.{text_version}
use Rattle.heap_image.proofs.Answered.{OneTable, one_answer_each}
use Rattle.heap_image.proofs.Texts.{same_table}
use Rattle.heap_image.proofs.laws.one_answer.Goals as goal

pub returns : goal.returns
returns c =
    let one : OneTable = λ version text a b p q. same_table a b (Ok a) (Ok b) refl refl (c.one_answer.ensures text (Ok a) (Ok b) (text_version version, p) (text_version version, q)) in
    λ bytes a b p q. one_answer_each bytes a b one p q
