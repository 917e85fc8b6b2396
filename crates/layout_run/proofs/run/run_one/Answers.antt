use Rattle.std.proofs.Common.{map, string_bytes}
use Rattle.ex_io.specs.Tape.{input}
use Rattle.layout_run.specs.Imaged.{if_imaged, image_of_run}
use Rattle.layout_run.specs.Outside.{held}
use Rattle.layout_run.proofs.ClearedRuns.{runs_clear}
use Rattle.layout_run.proofs.ImagedRuns.{sound-of}
use Rattle.layout_run.proofs.SoFar.{mapped}
use Rattle.layout_run.proofs.run.run_one.Goals as goal

pub returns-clause-clear : goal.returns-clause-clear
returns-clause-clear g c =
    mapped (input c.args.tape.now (g.S.Source.left c.args.input.now)) _ _ (λ bytes is runs. runs_clear c.clear_runs_match.ensures c.unstopped_runs_are_flat_runs.ensures c.args.program (map string_bytes c.args.args.now) c.args.settings bytes c.args.stop_at c.args.budget (if_imaged c.args.imaged (image_of_run c.args.program (map string_bytes c.args.args.now) c.args.settings bytes c.args.stop_at c.args.budget)) c.carry_out.result
    (held (g.O.Sink.held c.args.out.now) (g.E.Sink.held c.args.err.now)) (held (g.O.Sink.held c.carry_out.new.out) (g.E.Sink.held c.carry_out.new.err)) runs) c.carry_out.ensures.runs

pub returns-clause-sound : goal.returns-clause-sound
returns-clause-sound g c =
    mapped (input c.args.tape.now (g.S.Source.left c.args.input.now)) _ _ (λ bytes is runs. sound-of c.images_are_sound.ensures c.args.program (map string_bytes c.args.args.now) c.args.settings bytes c.args.stop_at c.args.budget c.args.imaged c.carry_out.result
    (held (g.O.Sink.held c.args.out.now) (g.E.Sink.held c.args.err.now)) (held (g.O.Sink.held c.carry_out.new.out) (g.E.Sink.held c.carry_out.new.err)) runs) c.carry_out.ensures.runs
