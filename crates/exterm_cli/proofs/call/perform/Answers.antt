use Rattle.std.proofs.Common.{map, string_bytes}
use Rattle.layout_run.specs.Outside.{held}
use Rattle.exterm_cli.specs.Parts.{stage_as}
use Rattle.exterm_cli.proofs.Performed.{all-led, cut-led}
use Rattle.exterm_cli.proofs.call.perform.Goals as goal

pub returns-in-Ok-clause-performs : goal.returns-in-Ok-clause-performs
returns-in-Ok-clause-performs g c =
    all-led (map string_bytes c.args.words.now) c.one_answer.ensures c.perform_stage.result (g.S.Source.left c.args.input.now) (g.S.Source.left c.perform_stage.new.input)
    (held (g.O.Sink.held c.args.out.now) (g.E.Sink.held c.args.err.now)) (held (g.O.Sink.held c.perform_stage.new.out) (g.E.Sink.held c.perform_stage.new.err))
    (g.F.Folder.files c.args.files.now) (g.F.Folder.files c.stage_of.new.files) (g.F.Folder.files c.perform_stage.new.files) (stage_as c.in-Ok.stage) c.in-Ok.ensures.files c.in-Ok.ensures.leads c.perform_stage.ensures.performs

pub returns-in-Err-clause-performs : goal.returns-in-Err-clause-performs
returns-in-Err-clause-performs g c =
    cut-led (map string_bytes c.args.words.now) c.in-Err.cut (g.S.Source.left c.args.input.now) (held (g.O.Sink.held c.args.out.now) (g.E.Sink.held c.args.err.now))
    (g.F.Folder.files c.args.files.now) (g.F.Folder.files c.stage_of.new.files) (g.F.Folder.faults c.args.files.now) (g.F.Folder.faults c.stage_of.new.files) c.in-Err.ensures.files c.in-Err.ensures.cause
