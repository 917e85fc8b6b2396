use Rattle.std.proofs.Common.{◌≡◌, ◌^◌, drop}
use Rattle.exterm_cli.specs.Number.{digits_from}
use Rattle.exterm_cli.proofs.words.digits_of.Given as goal

abbrev pub invariant-loop-digit : goal.invariant-loop-digit
invariant-loop-digit l = digits_from (2 ^ 64) 0 l.bytes ≡ digits_from (2 ^ 64) l.value (drop l.digit-index l.bytes)
