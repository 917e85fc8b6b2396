use Rattle.std.proofs.Common.{◌≡◌, get_or, refl, sym, ◌∙◌, ap, subst, arith}
use Rattle.std.proofs.lemmas.Grind.{pow_more}
use Rattle.std.proofs.lemmas.List.{get_or-take}
use Rattle.hex_text.specs.Hex.{hex_of, IsHexDigit}
use Rattle.hex_text.specs.Laws.{spelled, hex_of-digits}
use Rattle.hex_text.proofs.number_of.Goals as goal

pub loop-i-init : goal.loop-i-init
unfolding hex_of
loop-i-init c = (refl, omega arith)

pub returns-in-None : goal.returns-in-None
returns-in-None c = λ n is.
    let there : get_or c.args.bytes.now c.loop-i.i 0 ≡ get_or (hex_of 8 n) c.loop-i.i 0 = sym (get_or-take 8 c.args.bytes.now c.loop-i.i 0 c.loop-i-test.true) ∙ ap (λ xs. get_or xs c.loop-i.i 0) is in
    c.in-None.ensures (subst IsHexDigit (sym there) (hex_of-digits 8 n c.loop-i.i c.loop-i-test.true))

pub loop-i-preserved : goal.loop-i-preserved
loop-i-preserved c = rw c.from.ensures (spelled c.args.bytes.now c.loop-i.i c.loop-i.value c.in-Some.digit (omega (arith, c.requires)) c.in-Some.ensures.0 c.loop-i.invariant.0 c.in-Some.ensures.1, omega (arith, c.loop-i.invariant.1, c.in-Some.ensures.0, pow_more 16 c.loop-i.i))
