use Rattle.value_laws.proofs.Words.{alu_lt}
use Rattle.value_laws.proofs.operations_give_words.Goals as goal

pub returns : goal.returns
returns c = alu_lt
