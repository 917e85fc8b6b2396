use Rattle.std.proofs.Common.{◌≡◌, None, Some, Ok, IfSome, drop, map, string_bytes, subst}
use Rattle.ex_io.specs.Tape.{input}
use Rattle.layout_run.specs.Imaged.{if_imaged, image_of_run}
use Rattle.layout_run.specs.Outside.{held}
use Rattle.layout_run.specs.Runs.{LeavesTape, RunsAs}
use Rattle.layout_run.specs.Whole.{run_until}
use Rattle.exterm_cli.specs.Parts.{guest_as}
use Rattle.iterate.specs.Reruns.{first_image, printed_run}
use Rattle.exterm_cli.proofs.Known.{mapped}
use Rattle.exterm_cli.proofs.Left.{left-at, ok-any}
use Rattle.exterm_cli.proofs.Performed.{run-finished}
use Rattle.exterm_cli.proofs.run.run_on.Goals as goal

pub returns-in-Ok-clause-performs : goal.returns-in-Ok-clause-performs
returns-in-Ok-clause-performs g c =
    let before = held (g.O.Sink.held c.args.out.now) (g.E.Sink.held c.args.err.now) in
    let after = held (g.O.Sink.held c.run_one.new.out) (g.E.Sink.held c.run_one.new.err) in
    let guest = guest_as c.args.accepted in
    mapped (input c.args.tape.now (g.S.Source.left c.args.input.now)) _ _ (λ bytes is runs.
    mapped (g.F.Folder.files c.args.files.now) _ _ (λ told known keeps.
    run-finished (printed_run guest bytes) c.args.image c.is_some-imaged.result (first_image guest bytes) c.is_some-imaged.ensures before after told (g.F.Folder.files c.finish.new.files) c.in-Ok.ran runs c.finish.result c.finish.ensures.status c.finish.ensures.report keeps) c.finish.ensures.keeps)
    (subst (λ args. IfSome (input c.args.tape.now (g.S.Source.left c.args.input.now)) (λ bytes. RunsAs None (run_until c.args.accepted.program (map string_bytes args) c.args.accepted.settings bytes None c.args.accepted.budget) (if_imaged c.is_some-imaged.result (image_of_run c.args.accepted.program (map string_bytes args) c.args.accepted.settings bytes None c.args.accepted.budget)) (Ok c.in-Ok.ran) before after)) c.as_slice.ensures.value c.in-Ok.ensures.runs)

pub returns-in-Ok-clause-left : goal.returns-in-Ok-clause-left
returns-in-Ok-clause-left g c =
    let old = c.args.tape.now in
    let new = c.run_one.new.tape in
    let left = g.S.Source.left c.args.input.now in
    let left' = g.S.Source.left c.run_one.new.input in
    let guest = guest_as c.args.accepted in
    mapped (input old left) _ _ (λ bytes is leaves.
    ok-any c.finish.result (left' ≡ Some (drop (printed_run guest bytes).place bytes))
    (left-at old new left left' bytes (printed_run guest bytes).place c.requires.keep c.requires.begun c.in-Ok.ensures.keeps.0 c.has_answered.ensures leaves c.in-Ok.ensures.keeps.2 is))
    (subst (λ args. IfSome (input old left) (λ bytes. LeavesTape (run_until c.args.accepted.program (map string_bytes args) c.args.accepted.settings bytes None c.args.accepted.budget) (Ok c.in-Ok.ran) old new)) c.as_slice.ensures.value c.in-Ok.ensures.leaves)
