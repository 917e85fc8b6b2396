use Rattle.std.proofs.Common.{arith}
use Rattle.std.proofs.lemmas.Int.Digits.{digits_more, digits_value_more}
use Rattle.patch_table.proofs.Lines.{each_below}
use Rattle.patch_table.proofs.line.number_of.Goals as goal

pub returns-in-None : goal.returns-in-None
returns-in-None c = λ h. absurd (omega (arith, c.in-None.ensures, each_below c.args.digits.now c.loop-digit.digit-index h.numeral.1 c.loop-digit-test.true))

pub loop-digit-preserved : goal.loop-digit-preserved
loop-digit-preserved c =
    let i = c.loop-digit.digit-index in
    let ds = c.args.digits.now in
    record {
      digits = digits_more 10 ds i c.loop-digit-test.true c.loop-digit.invariant.digits (omega (arith, c.in-Some.ensures.0, c.in-Some.ensures.2));
      number = omega (arith, c.saturating_add-number.ensures, c.saturating_mul.ensures, c.from.ensures, c.loop-digit.invariant.number, c.in-Some.ensures.0, c.in-Some.ensures.2, digits_value_more 10 ds i c.loop-digit-test.true);
    }
