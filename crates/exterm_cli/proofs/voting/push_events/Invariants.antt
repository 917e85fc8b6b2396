use Rattle.std.proofs.Common.{◌≡◌, ◌++◌, drop, string_bytes}
use Rattle.exterm_cli.specs.Replicate.{events_from}
use Rattle.exterm_cli.proofs.voting.push_events.Given as goal

abbrev pub invariant-loop-one : goal.invariant-loop-one
invariant-loop-one l = string_bytes l.report ++ events_from l.after l.last l.retired (drop l.one-index l.patched) ≡ string_bytes l.fn.report ++ events_from 0 l.last l.retired l.patched
