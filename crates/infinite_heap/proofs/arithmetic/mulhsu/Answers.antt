use Rattle.std.proofs.Common.{arith, ◌≡◌, ◌∙◌, w32, to_z}
use Rattle.std.proofs.lemmas.Int.{to_z-of_z}
use Rattle.infinite_heap.proofs.Product.{high_word}
use Rattle.infinite_heap.proofs.arithmetic.mulhsu.Goals as goal
use mir.Val.{SFits}

pub returns : goal.returns
returns c =
    let fx : SFits w32 c.cast_signed.result = record { sfits = c.cast_signed.type_inv } in
    let p : c.from.result ≡ to_z w32 c.args.x = c.from.ensures ∙ to_z-of_z w32 c.cast_signed.result fx ∙ c.cast_signed.ensures in
    c.cast_unsigned.ensures
    ∙ high_word c.from.result c.from-2.result
    (rw (c.from.ensures, to_z-of_z w32 c.cast_signed.result fx) c.cast_signed.type_inv)
    (rw c.from-2.ensures (omega arith))
    ∙ rw (p, c.from-2.ensures)
