use Rattle.deferral_queue.specs.Laws.{insert_due_comm}
use Rattle.deferral_queue.proofs.puts_commute.Goals as goal

pub returns : goal.returns
returns c = insert_due_comm
