use Rattle.std.proofs.Common.{◌≡◌, ◌∷◌, length, take, get_or, ap, ◌∙◌, arith, length-append}
use Rattle.std.proofs.lemmas.List.{take_at, get_or_at}
use Rattle.hex_text.specs.Hex.{hex_of}
use Rattle.hex_text.specs.Laws.{length-hex_of}
use Rattle.patch_table.proofs.line.field_of.Goals as goal

pub returns-then-bytes-lt9 : goal.returns-then-bytes-lt9
returns-then-bytes-lt9 c = λ n rest e. omega (arith, ap length e, length-append (hex_of 8 n) (32 ∷ rest), length-hex_of 8 n)

pub returns-in-None : goal.returns-in-None
returns-in-None c = λ n rest e. c.in-None.ensures n (ap (take 8) e ∙ take_at (hex_of 8 n) (32 ∷ rest) 8 (length-hex_of 8 n))

pub returns-then-bytes-ne32 : goal.returns-then-bytes-ne32
returns-then-bytes-ne32 c = λ n rest e.
    let eighth : get_or c.args.bytes.now 8 0 ≡ 32 = ap (λ xs. get_or xs 8 0) e ∙ get_or_at (hex_of 8 n) 32 rest 0 8 (length-hex_of 8 n) in
    absurd (omega arith)
