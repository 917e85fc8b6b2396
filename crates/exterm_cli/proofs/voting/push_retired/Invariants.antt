use Rattle.std.proofs.Common.{◌≡◌, ◌++◌, drop, string_bytes}
use Rattle.exterm_cli.specs.Replicate.{retired_lines}
use Rattle.exterm_cli.proofs.voting.push_retired.Given as goal

abbrev pub invariant-loop-one : goal.invariant-loop-one
invariant-loop-one l = string_bytes l.report ++ retired_lines l.after l.until (drop l.one-index l.retired) ≡ string_bytes l.fn.report ++ retired_lines l.after l.until l.retired
