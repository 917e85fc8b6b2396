use Rattle.patch_table.proofs.Answered.{one_text, accepts, refuses}
use Rattle.patch_table.proofs.table.Patches.read.Goals as goal

pub returns : goal.returns
returns c = record {
  answer = c.answer_of.ensures;
  one_text = one_text c.args.text.now c.answer_of.result c.answer_of.ensures;
  accepts = accepts c.args.text.now c.answer_of.result c.answer_of.ensures;
  refuses = refuses c.args.text.now c.answer_of.result c.answer_of.ensures;
}
