use Rattle.std.proofs.Common.{◌≡◌, ◌+◌, ◌-◌, ◌*◌, ◌++◌, string_bytes}
use Rattle.exterm_cli.specs.Listing.{lines_from}
use Rattle.exterm_cli.proofs.listing.push_lines.Given as goal

abbrev pub invariant-loop-i : goal.invariant-loop-i
invariant-loop-i l = string_bytes l.text ++ lines_from l.segment (l.from + 4 * l.i) (l.count - l.i) ≡ string_bytes l.fn.text ++ lines_from l.segment l.from l.count
