use Rattle.std.proofs.Common.{arith, ◌≡◌, ◌<◌, ◌≤◌, ◌∙◌, ℤ, w32, to_z}
use Rattle.std.proofs.lemmas.Int.{to_z-of_z}
use Rattle.std.specs.Int.RustNames.{unsigned_abs}
use Rattle.infinite_heap.proofs.Product.{high_word, abs_below}
use Rattle.infinite_heap.proofs.arithmetic.mulh.Goals as goal
use mir.Val.{SFits}

pub returns : goal.returns
returns c =
    let fx : SFits w32 c.cast_signed.result = record { sfits = c.cast_signed.type_inv } in
    let fy : SFits w32 c.cast_signed-2.result = record { sfits = c.cast_signed-2.type_inv } in
    let p : c.from.result ≡ to_z w32 c.args.x = c.from.ensures ∙ to_z-of_z w32 c.cast_signed.result fx ∙ c.cast_signed.ensures in
    let q : c.from-2.result ≡ to_z w32 c.args.y = c.from-2.ensures ∙ to_z-of_z w32 c.cast_signed-2.result fy ∙ c.cast_signed-2.ensures in
    c.cast_unsigned.ensures
    ∙ high_word c.from.result c.from-2.result
    (rw (c.from.ensures, to_z-of_z w32 c.cast_signed.result fx) c.cast_signed.type_inv)
    (abs_le c.from-2.result (rw (c.from-2.ensures, to_z-of_z w32 c.cast_signed-2.result fy) c.cast_signed-2.type_inv))
    ∙ rw (p, q)
  where
    abs_le : (z : ℤ) → lib.Signed.mag z < 2147483648 → unsigned_abs z ≤ 4294967295
    abs_le z h = omega (arith, abs_below z 2147483648 h)
