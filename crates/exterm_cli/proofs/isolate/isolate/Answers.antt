use Rattle.exterm_cli.specs.Parts.{name_as, plan_as}
use Rattle.exterm_cli.proofs.Isolating.{isolation-cut, isolation-performs, isolation-raises}
use Rattle.exterm_cli.proofs.isolate.isolate.Goals as goal

pub returns-in-Ok-clause-performs : goal.returns-in-Ok-clause-performs
returns-in-Ok-clause-performs g c =
    isolation-performs c.images_isolate_one_table.ensures c.args.images.now (name_as c.args.to) c.settle.result (g.O.Sink.held c.args.out.now) (g.O.Sink.held c.settle.new.out)
    (plan_as c.in-Ok.plan) (g.F.Folder.files c.args.files.now) (g.F.Folder.files c.settle.new.files) c.in-Ok.ensures.isolates c.settle.ensures.performs

pub returns-in-Err-clause-performs : goal.returns-in-Err-clause-performs
returns-in-Err-clause-performs g c = isolation-cut c.args.images.now (name_as c.args.to) c.in-Err.cut (g.O.Sink.held c.args.out.now) (g.F.Folder.files c.args.files.now) c.in-Err.ensures.memory

pub returns-in-Err-clause-cause : goal.returns-in-Err-clause-cause
returns-in-Err-clause-cause g c = isolation-raises c.in-Err.cut (g.O.Sink.faults c.args.out.now) (g.F.Folder.faults c.args.files.now) c.in-Err.ensures.memory
