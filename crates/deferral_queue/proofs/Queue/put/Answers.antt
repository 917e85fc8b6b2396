use Rattle.std.proofs.Common.{ap, ◌∙◌}
use Rattle.deferral_queue.specs.Deferrals.{insert_due}
use Rattle.deferral_queue.proofs.Least.{dues_pushed}
use Rattle.deferral_queue.proofs.Queue.put.Goals as goal

pub returns-clause-dues : goal.returns-clause-dues
returns-clause-dues c = dues_pushed _ _ _ c.in-Ok.ensures.permutation ∙ ap (λ v. insert_due (record { due = c.args.due; object = c.args.object; addr = c.args.addr }) v.dues) c.self.view_is
