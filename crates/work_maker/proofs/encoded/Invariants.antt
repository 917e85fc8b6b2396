use Rattle.std.proofs.Common.{◌≡◌, ◌++◌, map, drop}
use Rattle.rv_decode.specs.Word.{word_of}
use Rattle.work_maker.proofs.encoded.Given as goal

abbrev pub invariant-loop-instr : goal.invariant-loop-instr
invariant-loop-instr l = l.words.items ++ map word_of (drop l.instr-index l.code) ≡ map word_of l.code
