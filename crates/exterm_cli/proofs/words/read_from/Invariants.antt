use Rattle.std.proofs.Common.{◌≡◌, ◌+◌, map, drop, string_bytes}
use Rattle.exterm_cli.specs.Words.{words_read, begun}
use Rattle.exterm_cli.proofs.words.read_from.Given as goal

abbrev pub invariant-loop-i : goal.invariant-loop-i
invariant-loop-i l = words_read l.reading (l.i + 1 + 1) (map string_bytes (drop l.i l.words)) ≡ words_read (begun l.fn.verb) 2 (map string_bytes l.words)
