use Rattle.std.proofs.Common.{◌≡◌, ◌++◌, drop}
use Rattle.std.specs.Int.{w32}
use Rattle.work_maker.specs.File.{numbers}
use Rattle.work_maker.proofs.file.File.words.Given as goal

abbrev pub invariant-loop-number : goal.invariant-loop-number
invariant-loop-number l = l.self.bytes.items ++ numbers w32 (drop l.number-index l.numbers) ≡ l.initial.self.bytes.items ++ numbers w32 l.numbers
