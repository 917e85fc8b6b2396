-- The file of a made program: docs/made-programs.md.
use Rattle.std.specs.Prelude.{ℕ, ◌+◌, ◌%◌, List, map}
use Rattle.rv_decode.specs.Word.{word_of}
use Rattle.work_maker.specs.Program.{program}
use Rattle.work_maker.specs.Draws.{draws_of}
use Rattle.work_maker.specs.File.{heaped}

-- the body of a number's program has between 4,096 and 8,191 turns
abbrev pub turns_of : ℕ → ℕ
turns_of n = 4096 + n % 4096

unfoldable pub made_words : ℕ → List ℕ
made_words n = map word_of (program (draws_of n) (turns_of n))

unfoldable pub made_file : ℕ → List ℕ
made_file n = heaped (made_words n)
