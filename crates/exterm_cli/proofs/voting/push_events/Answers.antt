use Rattle.std.proofs.Common.{string_bytes, ◌++◌, ◌∙◌, ap}
use Rattle.exterm_cli.specs.Replicate.{events_from}
use Rattle.exterm_cli.proofs.Reported.{events-next}
use Rattle.exterm_cli.proofs.voting.push_events.Goals as goal

pub loop-one-preserved : goal.loop-one-preserved
loop-one-preserved c =
    events-next c.args.patched.now c.loop-one.one-index (record { gate = 0; pads = 0; defers = 0 }) c.loop-one.after c.args.last c.args.retired.now (string_bytes c.loop-one.report) (string_bytes c.push_retired.new.report) (string_bytes c.push_str.new.self)
    (string_bytes c.args.report.now ++ events_from 0 c.args.last c.args.retired.now c.args.patched.now) c.loop-one-test.true c.in_ok-push_retired.ensures
    (c.in_ok-push_str.ensures.bytes ∙ ap (λ x. string_bytes c.push_retired.new.report ++ x) (c.as_str.ensures.value ∙ c.in_ok-text.ensures)) c.loop-one.invariant
