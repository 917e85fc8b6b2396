use Rattle.std.proofs.Common.{map, string_bytes}
use Rattle.layout_run.specs.Outside.{held}
use Rattle.exterm_cli.specs.Outside.{faults, seen}
use Rattle.exterm_cli.proofs.Answered.{answers}
use Rattle.exterm_cli.proofs.Headlined.{Laws, headline}
use Rattle.exterm_cli.proofs.WordBytes.{words-bytes}
use Rattle.exterm_cli.proofs.call.exterm.Goals as goal

pub returns-clause-answers : goal.returns-clause-answers
returns-clause-answers g c =
    answers c.every_text_is_answered.ensures c.one_answer.ensures c.one_text_a_table.ensures.one_version (map string_bytes c.args.words.now)
    (seen (held (g.O.Sink.held c.args.out.now) (g.E.Sink.held c.args.err.now)) (g.F.Folder.files c.args.files.now) (g.S.Source.left c.args.input.now) (faults (g.S.Source.faults c.args.input.now) (g.O.Sink.faults c.args.out.now) (g.E.Sink.faults c.args.err.now) (g.F.Folder.faults c.args.files.now)))
    (seen (held (g.O.Sink.held c.perform-performed.new.out) (g.E.Sink.held c.tell-answer.new.err)) (g.F.Folder.files c.perform-performed.new.files) (g.S.Source.left c.perform-performed.new.input) (faults (g.S.Source.faults c.perform-performed.new.input) (g.O.Sink.faults c.perform-performed.new.out) (g.E.Sink.faults c.tell-answer.new.err) (g.F.Folder.faults c.perform-performed.new.files)))
    (g.E.Sink.held c.perform-performed.new.err) (g.E.Sink.faults c.perform-performed.new.err) c.perform-performed.result c.tell-answer.result c.status_of.result c.perform-performed.ensures.performs c.perform-performed.ensures.cause c.tell-answer.ensures.told c.status_of.ensures

pub returns-clause-headline : goal.returns-clause-headline
returns-clause-headline g c =
    let laws : Laws = record {
      clear = c.clear_runs_match.ensures;
      prefixes = c.clear_runs_print_prefixes.ensures;
      within = c.places_in_the_input_rise.ensures.within;
      rounds = c.clear_rounds_stay_whole.ensures;
      inside = c.runs_are_one.ensures.inside;
      unstopped = c.unstopped_runs_are_flat_runs.ensures;
      start = c.runs_match.ensures.bytes;
      lawful = c.programs_are_lawful.ensures;
      holds = c.programs_hold_bytes.ensures;
      spelled = c.one_text_a_table.ensures.spelled;
    } in
    headline (map string_bytes c.args.words.now) _ _ c.status_of.result laws (words-bytes c.args.words.now) c.tells_bytes.ensures c.tells_bytes-2.ensures (returns-clause-answers g c)
