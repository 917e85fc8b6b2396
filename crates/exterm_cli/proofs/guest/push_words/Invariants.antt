use Rattle.std.proofs.Common.{◌≡◌, ◌++◌, map, drop, string_bytes}
use Rattle.exterm_cli.proofs.guest.push_words.Given as goal

abbrev pub invariant-loop-word : goal.invariant-loop-word
invariant-loop-word l = map string_bytes l.args.items ++ map string_bytes (drop l.word-index l.words) ≡ map string_bytes l.fn.args.items ++ map string_bytes l.fn.words
