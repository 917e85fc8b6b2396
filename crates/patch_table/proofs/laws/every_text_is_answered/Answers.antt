use Rattle.patch_table.proofs.Every.{every_text}
use Rattle.patch_table.proofs.laws.every_text_is_answered.Goals as goal

pub returns : goal.returns
returns c = λ text. every_text text
