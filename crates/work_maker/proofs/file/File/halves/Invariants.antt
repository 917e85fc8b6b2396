use Rattle.std.proofs.Common.{◌≡◌, ◌++◌, drop}
use Rattle.std.specs.Int.{w16}
use Rattle.work_maker.specs.File.{numbers}
use Rattle.work_maker.proofs.file.File.halves.Given as goal

abbrev pub invariant-loop-number : goal.invariant-loop-number
invariant-loop-number l = l.self.bytes.items ++ numbers w16 (drop l.number-index l.numbers) ≡ l.initial.self.bytes.items ++ numbers w16 l.numbers
